-- Blocks and the numbers that they stand for.
use Rattle.std.proofs.Common.{◌≡◌, ℕ, ◌+◌, ◌*◌, ◌/◌, ◌%◌, ◌^◌, List, [], ◌∷◌, get_or, refl, ap, ◌∙◌, div-one, arith}
use Rattle.cmac.specs.Blocks.{number, bytes_of}
use Rattle.cmac.specs.Cmac.{twice, doubled}

-- a block read as a number, and a number written as a block, byte after byte
abbrev pub read : List ℕ → ℕ
read block =
    get_or block 0 0 * 2 ^ 120 + get_or block 1 0 * 2 ^ 112 + get_or block 2 0 * 2 ^ 104 + get_or block 3 0 * 2 ^ 96 +
    get_or block 4 0 * 2 ^ 88 + get_or block 5 0 * 2 ^ 80 + get_or block 6 0 * 2 ^ 72 + get_or block 7 0 * 2 ^ 64 +
    get_or block 8 0 * 2 ^ 56 + get_or block 9 0 * 2 ^ 48 + get_or block 10 0 * 2 ^ 40 + get_or block 11 0 * 2 ^ 32 +
    get_or block 12 0 * 2 ^ 24 + get_or block 13 0 * 2 ^ 16 + get_or block 14 0 * 2 ^ 8 + get_or block 15 0

abbrev pub written : ℕ → List ℕ
written n =
    n / 2 ^ 120 % 256 ∷ n / 2 ^ 112 % 256 ∷ n / 2 ^ 104 % 256 ∷ n / 2 ^ 96 % 256 ∷
    n / 2 ^ 88 % 256 ∷ n / 2 ^ 80 % 256 ∷ n / 2 ^ 72 % 256 ∷ n / 2 ^ 64 % 256 ∷
    n / 2 ^ 56 % 256 ∷ n / 2 ^ 48 % 256 ∷ n / 2 ^ 40 % 256 ∷ n / 2 ^ 32 % 256 ∷
    n / 2 ^ 24 % 256 ∷ n / 2 ^ 16 % 256 ∷ n / 2 ^ 8 % 256 ∷ n % 256 ∷ []

read_number : (block : List ℕ) → read block ≡ number block
unfolding number
read_number block = omega arith

written_bytes : (n : ℕ) → written n ≡ bytes_of n
unfolding bytes_of
written_bytes n = rw (div-one n) refl

-- a block doubled by its number
pub doubled_number : (n m : ℕ) (block r : List ℕ) → n ≡ read block → m ≡ twice n → r ≡ written m → r ≡ doubled block
unfolding doubled
doubled_number n m block r e f g = g ∙ written_bytes m ∙ ap bytes_of (f ∙ ap twice (e ∙ read_number block))
