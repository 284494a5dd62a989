-- Blocks of sixteen bytes.
use Rattle.std.specs.Prelude.{ℕ, ◌-◌, ◌*◌, ◌/◌, ◌%◌, ◌^◌, List, map, replicate, sum, bit_xor, slice_index}
use Rattle.std.specs.List.{range_with_len}

abbrev pub zeros : List ℕ
zeros = replicate 16 0

-- the sum of two blocks, bit by bit
unfoldable pub xored : List ℕ → List ℕ → List ℕ
xored a b = map (λ i. bit_xor (slice_index a i) (slice_index b i)) (range_with_len 0 16)

-- a block as a number of 128 bits, its first byte the highest, and back
unfoldable pub number : List ℕ → ℕ
number block = sum (map (λ i. slice_index block i * 2 ^ (8 * (15 - i))) (range_with_len 0 16))

unfoldable pub bytes_of : ℕ → List ℕ
bytes_of n = map (λ i. n / 2 ^ (8 * (15 - i)) % 256) (range_with_len 0 16)
