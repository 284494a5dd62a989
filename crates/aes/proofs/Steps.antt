-- The steps of a round, on the state as four words.
use Rattle.std.proofs.Common.{◌≡◌, ℕ, ◌+◌, ◌*◌, ◌/◌, ◌%◌, ◌^◌, ◌<◌, List, [], ◌∷◌, ◌++◌, map, length, get_or, sym, subst, refl, ap, ◌∙◌}
use lib.Bits.{bit_or, bit_xor}
use Rattle.std.specs.List.{range_with_len, flat_map}
use Rattle.std.proofs.lemmas.List.FromFn.{fill_by_all}
use Rattle.aes.specs.Field.{sbox}
use Rattle.aes.specs.Words.{word, bytes_of, columns}
use Rattle.aes.specs.Cipher.{double, triple, mixed, add_round_key}
use Rattle.aes.proofs.Rules.{mix_bytes}
use Rattle.aes.proofs.Bytes.{xor_bytes, rotated_1, rotated_2, rotated_3}

-- a list of sixteen, written out
sixteen : (s : List ℕ) → length s ≡ 16 → map (λ k. get_or s k 0) (range_with_len 0 16) ≡ s
sixteen s long = sym (fill_by_all (λ k. get_or s k 0) s 16 0 long (λ k h. refl))

-- the state, from the bytes of each column
pub by_columns : (x y z w : ℕ) {p q r s : List ℕ} → bytes_of x ≡ p → bytes_of y ≡ q → bytes_of z ≡ r → bytes_of w ≡ s
    → columns (x ∷ y ∷ z ∷ w ∷ []) ≡ p ++ (q ++ (r ++ s))
unfolding columns
by_columns x y z w e f g h = rw (← e, ← f, ← g, ← h) refl

-- columns that have the bytes of a block are that block
pub loaded : (x y z w : ℕ) (block : List ℕ) → length block ≡ 16
    → bytes_of x ≡ get_or block 0 0 ∷ get_or block 1 0 ∷ get_or block 2 0 ∷ get_or block 3 0 ∷ []
    → bytes_of y ≡ get_or block 4 0 ∷ get_or block 5 0 ∷ get_or block 6 0 ∷ get_or block 7 0 ∷ []
    → bytes_of z ≡ get_or block 8 0 ∷ get_or block 9 0 ∷ get_or block 10 0 ∷ get_or block 11 0 ∷ []
    → bytes_of w ≡ get_or block 12 0 ∷ get_or block 13 0 ∷ get_or block 14 0 ∷ get_or block 15 0 ∷ []
    → columns (x ∷ y ∷ z ∷ w ∷ []) ≡ block
loaded x y z w block long e f g h = by_columns x y z w e f g h ∙ sixteen block long

-- four words one after another as bytes
pub stored : (s : List ℕ) → length s ≡ 4 → flat_map (λ b. b) (map bytes_of s) ≡ columns s
unfolding columns
stored s long =
    let four : map (λ k. get_or s k 0) (range_with_len 0 4) ≡ s = sym (fill_by_all (λ k. get_or s k 0) s 4 0 long (λ k h. refl)) in
    subst (λ l. flat_map (λ b. b) (map bytes_of l) ≡ columns l) four refl

-- AddRoundKey takes one word from each column's place
pub key_added : (s w : List ℕ) (n : ℕ)
    → columns (map (λ c. bit_xor (get_or s c 0) (get_or w (4 * n + c) 0)) (range_with_len 0 4)) ≡ add_round_key (columns s) w n
unfolding columns add_round_key
key_added s w n =
    by_columns _ _ _ _
    (xor_bytes (get_or s 0 0) (get_or w (4 * n + 0) 0)) (xor_bytes (get_or s 1 0) (get_or w (4 * n + 1) 0))
    (xor_bytes (get_or s 2 0) (get_or w (4 * n + 2) 0)) (xor_bytes (get_or s 3 0) (get_or w (4 * n + 3) 0))

-- the sum of two words whose bytes are known
summed : (x y : ℕ) {a b c d a' b' c' d' : ℕ} → bytes_of x ≡ a ∷ b ∷ c ∷ d ∷ [] → bytes_of y ≡ a' ∷ b' ∷ c' ∷ d' ∷ []
    → bytes_of (bit_xor x y) ≡ bit_xor a a' ∷ bit_xor b b' ∷ bit_xor c c' ∷ bit_xor d d' ∷ []
summed x y e f = let t = xor_bytes x y in cc

-- a word of the mix table, for the byte b
pub record Entry (t b : ℕ) : Type 0 where
  pub fits : t < 2 ^ 32
  pub bytes : bytes_of t ≡ double (sbox b) ∷ sbox b ∷ sbox b ∷ triple (sbox b) ∷ []

pub entry : (t b p : ℕ) → t < 2 ^ 32 → t ≡ word (double (sbox b)) (sbox b) (sbox b) (triple (sbox b)) → b ≡ p → p < 256 → Entry t p
entry t b p h e same small =
    record { fits = h; bytes = ap bytes_of (e ∙ ap (λ q. word (double (sbox q)) (sbox q) (sbox q) (triple (sbox q))) same) ∙ mix_bytes p small }

-- four such words, each rotated to its row, add up to the mixed column
pub mixed_sum : (t u v w u' v' w' : ℕ) {a b c d : ℕ} → Entry t a → Entry u b → Entry v c → Entry w d
    → u' ≡ bit_or (u / 2 ^ 8) (u * 2 ^ 24 % 2 ^ 32) → v' ≡ bit_or (v / 2 ^ 16) (v * 2 ^ 16 % 2 ^ 32) → w' ≡ bit_or (w / 2 ^ 24) (w * 2 ^ 8 % 2 ^ 32)
    → bytes_of (bit_xor (bit_xor (bit_xor t u') v') w') ≡ mixed (sbox a) (sbox b) (sbox c) (sbox d)
mixed_sum t u v w u' v' w' et eu ev ew ru rv rw' =
    summed (bit_xor (bit_xor t u') v') w'
    (summed (bit_xor t u') v'
    (summed t u' et.bytes (ap bytes_of ru ∙ rotated_1 u _ _ _ _ eu.fits eu.bytes))
    (ap bytes_of rv ∙ rotated_2 v _ _ _ _ ev.fits ev.bytes))
    (ap bytes_of rw' ∙ rotated_3 w _ _ _ _ ew.fits ew.bytes)
