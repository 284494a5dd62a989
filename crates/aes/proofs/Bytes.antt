-- Words by their bytes: how they are put together, added and rotated.
use Rattle.std.proofs.Common.{◌≡◌, ℕ, ◌+◌, ◌*◌, ◌/◌, ◌%◌, ◌^◌, ◌<◌, List, [], ◌∷◌, sym, ap, ◌∙◌, arith}
use lib.Bits.{bit_or, bit_xor, xor_shr, xor_mod, or_shifted_r}
use Rattle.std.proofs.lemmas.Nat.{shr-shr, shr_split, shr_below}
use Rattle.aes.specs.Words.{word, byte, bytes_of}

-- two words with the same bytes at each place
bytes_same : {a a' b b' c c' d d' : ℕ} → a ≡ a' → b ≡ b' → c ≡ c' → d ≡ d' → ◌≡◌ {A = List ℕ} (a ∷ b ∷ c ∷ d ∷ []) (a' ∷ b' ∷ c' ∷ d' ∷ [])
bytes_same p q r s = cc

-- a word put together has the bytes that it was made of
pub word_bytes : (a b c d : ℕ) → a < 256 → b < 256 → c < 256 → d < 256 → bytes_of (word a b c d) ≡ a ∷ b ∷ c ∷ d ∷ []
word_bytes a b c d ha hb hc hd = bytes_same (omega arith) (omega arith) (omega arith) (omega arith)

-- a sum of words is taken byte by byte
pub xor_bytes : (x y : ℕ)
    → bytes_of (bit_xor x y) ≡ bit_xor (byte 0 x) (byte 0 y) ∷ bit_xor (byte 1 x) (byte 1 y) ∷ bit_xor (byte 2 x) (byte 2 y) ∷ bit_xor (byte 3 x) (byte 3 y) ∷ []
xor_bytes x y =
    bytes_same
    (ap (λ q. q % 256) (xor_shr x y 24) ∙ xor_mod (x / 2 ^ 24) (y / 2 ^ 24) 8)
    (ap (λ q. q % 256) (xor_shr x y 16) ∙ xor_mod (x / 2 ^ 16) (y / 2 ^ 16) 8)
    (ap (λ q. q % 256) (xor_shr x y 8) ∙ xor_mod (x / 2 ^ 8) (y / 2 ^ 8) 8)
    (xor_mod x y 8)

-- a number by its digits in base 256
from_digits : (x q r a b c d : ℕ) → q * 2 ^ 8 + d ≡ x → r * 2 ^ 8 + c ≡ q → a * 2 ^ 8 + b ≡ r → x ≡ word a b c d
from_digits x q r a b c d e f g = omega arith

-- a word is made of its bytes
whole : (x a b c d : ℕ) → x < 2 ^ 32 → bytes_of x ≡ a ∷ b ∷ c ∷ d ∷ [] → (x ≡ word a b c d) × (a < 256) × (b < 256) × (c < 256) × (d < 256)
whole x a b c d h e =
    let p : x / 2 ^ 24 % 256 ≡ a = cc in
    let q : x / 2 ^ 16 % 256 ≡ b = cc in
    let r : x / 2 ^ 8 % 256 ≡ c = cc in
    let s : x % 256 ≡ d = cc in
    let top : x / 2 ^ 24 ≡ a = omega (arith, shr_below x 8 24 h) in (
      from_digits x (x / 2 ^ 8) (x / 2 ^ 16) a b c d
          (ap (λ n. x / 2 ^ 8 * 2 ^ 8 + n) (sym s) ∙ shr_split x 8)
          (ap (λ n. n * 2 ^ 8 + c) (sym (shr-shr x 8 8)) ∙ ap (λ n. x / 2 ^ 8 / 2 ^ 8 * 2 ^ 8 + n) (sym r) ∙ shr_split (x / 2 ^ 8) 8)
          (ap (λ n. n * 2 ^ 8 + b) (sym top ∙ sym (shr-shr x 16 8)) ∙ ap (λ n. x / 2 ^ 16 / 2 ^ 8 * 2 ^ 8 + n) (sym q) ∙ shr_split (x / 2 ^ 16) 8),
      omega arith,
      omega arith,
      omega arith,
      omega arith,
    )

-- a word rotated to the right by one byte, by two and by three
pub rotated_1 : (x a b c d : ℕ) → x < 2 ^ 32 → bytes_of x ≡ a ∷ b ∷ c ∷ d ∷ [] → bytes_of (bit_or (x / 2 ^ 8) (x * 2 ^ 24 % 2 ^ 32)) ≡ d ∷ a ∷ b ∷ c ∷ []
rotated_1 x a b c d h e =
    let w = whole x a b c d h e in
    let low : x / 2 ^ 8 ≡ a * 2 ^ 16 + b * 2 ^ 8 + c = omega (arith, w) in
    let high : x * 2 ^ 24 % 2 ^ 32 ≡ (d) * 2 ^ 24 = omega (arith, w) in
    let sum : bit_or (x / 2 ^ 8) (x * 2 ^ 24 % 2 ^ 32) ≡ word d a b c =
    ap (bit_or (x / 2 ^ 8)) high ∙ or_shifted_r d 24 (x / 2 ^ 8) (omega (arith, w)) ∙ omega (arith, w) in
    ap bytes_of sum ∙ word_bytes d a b c (omega (arith, w)) (omega (arith, w)) (omega (arith, w)) (omega (arith, w))

pub rotated_2 : (x a b c d : ℕ) → x < 2 ^ 32 → bytes_of x ≡ a ∷ b ∷ c ∷ d ∷ [] → bytes_of (bit_or (x / 2 ^ 16) (x * 2 ^ 16 % 2 ^ 32)) ≡ c ∷ d ∷ a ∷ b ∷ []
rotated_2 x a b c d h e =
    let w = whole x a b c d h e in
    let low : x / 2 ^ 16 ≡ a * 2 ^ 8 + b = omega (arith, w) in
    let high : x * 2 ^ 16 % 2 ^ 32 ≡ (c * 2 ^ 8 + d) * 2 ^ 16 = omega (arith, w) in
    let sum : bit_or (x / 2 ^ 16) (x * 2 ^ 16 % 2 ^ 32) ≡ word c d a b =
    ap (bit_or (x / 2 ^ 16)) high ∙ or_shifted_r (c * 2 ^ 8 + d) 16 (x / 2 ^ 16) (omega (arith, w)) ∙ omega (arith, w) in
    ap bytes_of sum ∙ word_bytes c d a b (omega (arith, w)) (omega (arith, w)) (omega (arith, w)) (omega (arith, w))

pub rotated_3 : (x a b c d : ℕ) → x < 2 ^ 32 → bytes_of x ≡ a ∷ b ∷ c ∷ d ∷ [] → bytes_of (bit_or (x / 2 ^ 24) (x * 2 ^ 8 % 2 ^ 32)) ≡ b ∷ c ∷ d ∷ a ∷ []
rotated_3 x a b c d h e =
    let w = whole x a b c d h e in
    let low : x / 2 ^ 24 ≡ a = omega (arith, w) in
    let high : x * 2 ^ 8 % 2 ^ 32 ≡ (b * 2 ^ 16 + c * 2 ^ 8 + d) * 2 ^ 8 = omega (arith, w) in
    let sum : bit_or (x / 2 ^ 24) (x * 2 ^ 8 % 2 ^ 32) ≡ word b c d a =
    ap (bit_or (x / 2 ^ 24)) high ∙ or_shifted_r (b * 2 ^ 16 + c * 2 ^ 8 + d) 8 (x / 2 ^ 24) (omega (arith, w)) ∙ omega (arith, w) in
    ap bytes_of sum ∙ word_bytes b c d a (omega (arith, w)) (omega (arith, w)) (omega (arith, w)) (omega (arith, w))
