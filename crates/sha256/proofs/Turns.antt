-- One more turn of the loops of the compression.
use Rattle.std.proofs.Common.{◌≡◌, ℕ, ◌+◌, ◌<◌, ◌≤◌, List, length, get_or, take, set, refl, ◌∙◌, add-one, arith, length-set, le-ltb, lt-ltb}
use Rattle.std.proofs.lemmas.List.{take_more_set}
use Rattle.sha256.specs.Compression.{loaded, extended, schedule, constants, rounded, rounds}

-- the first t words are those of the block's schedule
abbrev pub Scheduled : ℕ → List ℕ → List ℕ → Type 0
Scheduled t words block = (length words ≡ 64) × (take t words ≡ schedule t block)

-- one more word, of the first sixteen
pub scheduled_loaded : (t x : ℕ) (words block : List ℕ) → t < 16 → x ≡ loaded block t → Scheduled t words block
    → Scheduled (t + 1) (set words t x) block
unfolding schedule
scheduled_loaded t x words block h e (n, inv) =
    (length-set words t x ∙ n, take_more_set words t x (omega arith) ∙ rw (add-one, lt-ltb t 16 h, e, inv) refl)

-- one more word, past the first sixteen
pub scheduled_extended : (t u x : ℕ) (words block : List ℕ) → 16 ≤ t → t < 64 → t + 1 ≡ u → x ≡ extended (take t words) t
    → Scheduled t words block → Scheduled u (set words t x) block
unfolding schedule
scheduled_extended t u x words block h l more e (n, inv) =
    (length-set words t x ∙ n, rw (← more) (take_more_set words t x (omega arith) ∙ rw (add-one, le-ltb t 16 h, e, inv) refl))

-- one more round, the one at t
pub rounds-more : (t u k : ℕ) (words s before after : List ℕ) → t + 1 ≡ u → k ≡ get_or constants t 0
    → after ≡ rounded before k (get_or words t 0) → before ≡ rounds t words s → after ≡ rounds u words s
unfolding rounds
rounds-more t u k words s before after n ek e inv = e ∙ rw (← n, add-one, ek, inv) refl
