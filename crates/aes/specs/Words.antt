-- Words of four bytes, and the state of sixteen: FIPS 197, sections 3.4 and 3.5.
use Rattle.std.specs.Prelude.{ℕ, ◌+◌, ◌*◌, ◌/◌, ◌%◌, ◌^◌, List, [], ◌∷◌, map, slice_index}
use Rattle.std.specs.List.{range_with_len}

-- 3.5: a word from its bytes, the first one highest, and its bytes
abbrev pub word : ℕ → ℕ → ℕ → ℕ → ℕ
word a b c d = a * 2 ^ 24 + b * 2 ^ 16 + c * 2 ^ 8 + d

abbrev pub bytes_of : ℕ → List ℕ
bytes_of w = w / 2 ^ 24 % 256 ∷ w / 2 ^ 16 % 256 ∷ w / 2 ^ 8 % 256 ∷ w % 256 ∷ []

abbrev pub byte : ℕ → ℕ → ℕ
byte r w = slice_index (bytes_of w) r

-- 3.4: the state, given by row and column, and its byte at a row and a column: column after column
abbrev pub state : (ℕ → ℕ → ℕ) → List ℕ
state f = map (λ i. f (i % 4) (i / 4)) (range_with_len 0 16)

abbrev pub at : List ℕ → ℕ → ℕ → ℕ
at s r c = slice_index s (r + 4 * c)

-- 3.5: the state whose columns are the first four of some words
unfoldable pub columns : List ℕ → List ℕ
columns words = state (λ r c. byte r (slice_index words c))
