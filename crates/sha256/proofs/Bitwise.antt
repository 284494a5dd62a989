-- Ch and Maj in fewer operations.
use Rattle.std.proofs.Common.{◌≡◌, ℕ, zero, suc, ◌-◌, ◌/◌, ◌%◌, ◌^◌, ◌<◌, Bool, true, false, refl, mod-lt, pow-suc, arith, lit<}
use lib.Bits.{bit_and, bit_xor, and_shr, xor_shr, and_mod, xor_mod}
use Rattle.sha256.specs.Compression.{ch, maj}

-- numbers are equal where their halves and their lowest bits are
halves : (a b : ℕ) → a / 2 ≡ b / 2 → a % 2 ≡ b % 2 → a ≡ b
halves a b high low = omega arith

-- the operators work on the halves and on the lowest bits
and_half : (a b : ℕ) → bit_and a b / 2 ≡ bit_and (a / 2) (b / 2)
and_half a b = and_shr a b 1

xor_half : (a b : ℕ) → bit_xor a b / 2 ≡ bit_xor (a / 2) (b / 2)
xor_half a b = xor_shr a b 1

and_low : (a b : ℕ) → bit_and a b % 2 ≡ bit_and (a % 2) (b % 2)
and_low a b = and_mod a b 1

xor_low : (a b : ℕ) → bit_xor a b % 2 ≡ bit_xor (a % 2) (b % 2)
xor_low a b = xor_mod a b 1

-- the lowest bit of a number is one of two
abbrev number : Bool → ℕ
number false = 0
number true = 1

below_two : (r : ℕ) → r < 2 → (b : Bool) × (r ≡ number b)
below_two zero h = (false, refl)
below_two (suc zero) h = (true, refl)
below_two (suc (suc r)) h = absurd (omega arith)

bit : (n : ℕ) → (b : Bool) × (n % 2 ≡ number b)
bit n = below_two (n % 2) (mod-lt n (lit< tt))

-- the choice in three operations, of bits
ch_bits : (a b c : Bool)
    → bit_xor (bit_and (number a) (bit_xor (number b) (number c))) (number c)
    ≡ bit_xor (bit_and (number a) (number b)) (bit_and (1 - number a) (number c))
ch_bits false false false = refl
ch_bits false false true = refl
ch_bits false true false = refl
ch_bits false true true = refl
ch_bits true false false = refl
ch_bits true false true = refl
ch_bits true true false = refl
ch_bits true true true = refl

-- of numbers of k bits
ch_of : (k x y z : ℕ) → x < 2 ^ k → y < 2 ^ k → z < 2 ^ k
    → bit_xor (bit_and x (bit_xor y z)) z ≡ bit_xor (bit_and x y) (bit_and ((2 ^ k - 1) - x) z)
ch_of zero x y z lx ly lz =
    let ex : x ≡ 0 = omega arith in let ey : y ≡ 0 = omega arith in let ez : z ≡ 0 = omega arith in
    simp (ex, ey, ez)
ch_of (suc k) x y z lx ly lz =
    let p = pow-suc 2 k in
    let half : ((2 ^ suc k - 1) - x) / 2 ≡ (2 ^ k - 1) - x / 2 = omega arith in
    let low : ((2 ^ suc k - 1) - x) % 2 ≡ 1 - x % 2 = omega arith in
    let a = bit x in let b = bit y in let c = bit z in
    halves _ _ (simp (and_half, xor_half, half) (ch_of k (x / 2) (y / 2) (z / 2) (omega arith) (omega arith) (omega arith)))
    (simp (and_low, xor_low, low) (rw (a.1, b.1, c.1) (ch_bits a.0 b.0 c.0)))

-- and of words
pub ch_short : (x y z : ℕ) → x < 2 ^ 32 → y < 2 ^ 32 → z < 2 ^ 32 → bit_xor (bit_and x (bit_xor y z)) z ≡ ch x y z
ch_short x y z = ch_of 32 x y z

-- the majority by differences, of bits
maj_bits : (a b c : Bool)
    → bit_xor (bit_and (bit_xor (number a) (number b)) (bit_xor (number b) (number c))) (number b)
    ≡ bit_xor (bit_xor (bit_and (number a) (number b)) (bit_and (number a) (number c))) (bit_and (number b) (number c))
maj_bits false false false = refl
maj_bits false false true = refl
maj_bits false true false = refl
maj_bits false true true = refl
maj_bits true false false = refl
maj_bits true false true = refl
maj_bits true true false = refl
maj_bits true true true = refl

-- of numbers of k bits
maj_of : (k x y z : ℕ) → x < 2 ^ k → y < 2 ^ k → z < 2 ^ k → bit_xor (bit_and (bit_xor x y) (bit_xor y z)) y ≡ maj x y z
maj_of zero x y z lx ly lz =
    let ex : x ≡ 0 = omega arith in let ey : y ≡ 0 = omega arith in let ez : z ≡ 0 = omega arith in
    simp (ex, ey, ez)
maj_of (suc k) x y z lx ly lz =
    let p = pow-suc 2 k in
    let a = bit x in let b = bit y in let c = bit z in
    halves _ _ (simp (and_half, xor_half) (maj_of k (x / 2) (y / 2) (z / 2) (omega arith) (omega arith) (omega arith)))
    (simp (and_low, xor_low) (rw (a.1, b.1, c.1) (maj_bits a.0 b.0 c.0)))

-- and of words
pub maj_short : (x y z : ℕ) → x < 2 ^ 32 → y < 2 ^ 32 → z < 2 ^ 32 → bit_xor (bit_and (bit_xor x y) (bit_xor y z)) y ≡ maj x y z
maj_short x y z = maj_of 32 x y z
