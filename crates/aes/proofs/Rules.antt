-- Rules that are compared at all bytes by computing them.
use Rattle.std.proofs.Common.{◌≡◌, ℕ, ◌<◌, List, [], ◌∷◌, map, get_or, sym, refl, ap, ◌∙◌, arith}
use Rattle.std.specs.List.{range_with_len}
use Rattle.std.proofs.lemmas.List.FromFn.{get_or-map-range_with_len}
use Rattle.aes.specs.Field.{sbox, affine, squares, times}
use Rattle.aes.specs.Words.{word, bytes_of}
use Rattle.aes.specs.Cipher.{double, triple}

-- two rules with the same table agree
same_below : (f g : ℕ → List ℕ) (n x : ℕ) → map f (range_with_len 0 n) ≡ map g (range_with_len 0 n) → x < n → f x ≡ g x
same_below f g n x e h =
    sym (get_or-map-range_with_len f 0 n x x [] h (omega arith)) ∙ ap (λ (l : List (List ℕ)). get_or l x []) e
    ∙ get_or-map-range_with_len g 0 n x x [] h (omega arith)

-- a byte's word of the mix table, as bytes
pub mix_bytes : (b : ℕ) → b < 256
    → bytes_of (word (double (sbox b)) (sbox b) (sbox b) (triple (sbox b))) ≡ double (sbox b) ∷ sbox b ∷ sbox b ∷ triple (sbox b) ∷ []
unfolding sbox affine squares times
mix_bytes b h =
    same_below (λ x. bytes_of (word (double (sbox x)) (sbox x) (sbox x) (triple (sbox x)))) (λ x. double (sbox x) ∷ sbox x ∷ sbox x ∷ triple (sbox x) ∷ []) 256 b refl h
