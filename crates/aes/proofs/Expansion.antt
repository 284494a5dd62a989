-- The key schedule, word after word.
use Rattle.std.proofs.Common.{◌≡◌, ℕ, zero, suc, ◌+◌, ◌-◌, ◌<◌, ◌≤◌, List, [], ◌∷◌, length, get_or, take, set, sym, refl, ap, ◌∙◌, arith, length-append}
use Rattle.std.proofs.lemmas.List.{take_more_set, take_all, get_or_append_left}
use Rattle.aes.specs.Words.{columns}
use Rattle.aes.specs.Cipher.{key_words, scheduled, schedule, expanded}

-- one word more, word i
pub schedule-more : (i x : ℕ) (w key : List ℕ) → 4 ≤ i → i < length w → x ≡ scheduled (take i w) i → take i w ≡ schedule (i - 4) key
    → take (i + 1) (set w i x) ≡ schedule ((i + 1) - 4) key
unfolding schedule
schedule-more i x w key le h e inv =
    let more : (i + 1) - 4 ≡ suc (i - 4) = omega arith in
    let place : 4 + (i - 4) ≡ i = omega arith in
    take_more_set w i x h ∙ rw (more, place, e, inv) refl

length-schedule : (n : ℕ) (key : List ℕ) → length (schedule n key) ≡ 4 + n
unfolding schedule
length-schedule zero key = refl
length-schedule (suc n) key =
    length-append (schedule n key) (scheduled (schedule n key) (4 + n) ∷ []) ∙ omega (arith, length-schedule n key)

-- the words of the key stay where they are
key_word : (n : ℕ) (key : List ℕ) (c : ℕ) → c < 4 → get_or (schedule n key) c 0 ≡ get_or (key_words key) c 0
unfolding schedule
key_word zero key c h = refl
key_word (suc n) key c h =
    get_or_append_left (schedule n key) (scheduled (schedule n key) (4 + n) ∷ []) 0 c (omega (arith, length-schedule n key)) ∙ key_word n key c h

-- so the first round key is the key
pub schedule_key : (n : ℕ) (key : List ℕ) → columns (schedule n key) ≡ columns (key_words key)
unfolding columns
schedule_key n key =
    rw (key_word n key 0 (omega arith), key_word n key 1 (omega arith), key_word n key 2 (omega arith), key_word n key 3 (omega arith)) refl

-- all words, and the key among them
pub schedule-all : (i : ℕ) (w key : List ℕ) → i ≡ 44 → length w ≡ 44 → take i w ≡ schedule (i - 4) key → w ≡ expanded key
schedule-all i w key e long inv = sym (take_all i w (omega arith)) ∙ inv ∙ ap (λ k. schedule (k - 4) key) e

pub expanded_key : (w first key : List ℕ) → w ≡ expanded key → first ≡ key_words key → columns first ≡ key → columns w ≡ key
expanded_key w first key e f g = ap columns e ∙ schedule_key 40 key ∙ ap columns (sym f) ∙ g

-- a schedule is that of its own first round key
pub expanded_own : (w key : List ℕ) → w ≡ expanded key → columns w ≡ key → w ≡ expanded (columns w)
expanded_own w key e f = e ∙ ap expanded (sym f)
