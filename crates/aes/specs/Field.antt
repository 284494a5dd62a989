-- The field of 256 elements, and the S-box: FIPS 197, sections 4.2 and 5.1.1.
-- A byte stands for the polynomial over two bits that has its bits as coefficients. The sum of two is `bit_xor`.
use Rattle.std.specs.Prelude.{ℕ, zero, suc, ◌-◌, ◌*◌, ◌/◌, ◌%◌, ◌^◌, cond, ◌==◌, bit_or, bit_xor, nat_le}

-- 4.2.1: b times x, modulo x ^ 8 + x ^ 4 + x ^ 3 + x + 1
abbrev pub xtime : ℕ → ℕ
xtime b = cond (nat_le 0x80 b) (bit_xor (b * 2 % 2 ^ 8) 0x1b) (b * 2 % 2 ^ 8)

-- 4.2: a times the lowest n bits of b
unfoldable pub times : ℕ → ℕ → ℕ → ℕ
times zero a b = 0
times (suc n) a b = bit_xor (cond (b % 2 == 1) a 0) (times n (xtime a) (b / 2))

abbrev pub product : ℕ → ℕ → ℕ
product a b = times 8 a b

-- b ^ 2 times b ^ 4 times b ^ 8 and so on, n factors
unfoldable pub squares : ℕ → ℕ → ℕ
squares zero b = 1
squares (suc n) b = let s = product b b in product s (squares n s)

-- the inverse: b ^ 254, since b ^ 255 is 1 for all b but 0; and 0 at 0
abbrev pub inverse : ℕ → ℕ
inverse b = squares 7 b

-- 5.1.1: the affine map, each bit with the bits 4, 5, 6 and 7 places above it, round about, and with those of 0x63
abbrev pub rotated : ℕ → ℕ → ℕ
rotated n b = bit_or (b * 2 ^ n % 2 ^ 8) (b / 2 ^ (8 - n))

unfoldable pub affine : ℕ → ℕ
affine b = bit_xor (bit_xor (bit_xor (bit_xor (bit_xor b (rotated 1 b)) (rotated 2 b)) (rotated 3 b)) (rotated 4 b)) 0x63

unfoldable pub sbox : ℕ → ℕ
sbox b = affine (inverse b)
