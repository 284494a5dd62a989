-- Buffers that were cleared.
use Rattle.std.proofs.Common.{◌≡◌, ℕ, List, length, replicate, sym, ap, ◌∙◌}
use Rattle.board.specs.Answers.{cleared}

-- only the length of a buffer counts
pub cleared_same : (xs ys : List ℕ) → length xs ≡ length ys → cleared xs ≡ cleared ys
unfolding cleared
cleared_same xs ys e = ap (λ (n : ℕ). replicate n 0) e

-- zeros in the place of a buffer of n bytes
pub zeros : (n : ℕ) (xs ys : List ℕ) → ys ≡ replicate n 0 → length xs ≡ n → ys ≡ cleared xs
unfolding cleared
zeros n xs ys e size = e ∙ ap (λ (k : ℕ). replicate k 0) (sym size)
