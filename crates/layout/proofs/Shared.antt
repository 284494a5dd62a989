-- Two images that share a block.
use Rattle.std.proofs.Common.{ℕ, ◌-◌, ◌<◌, ◌≤◌, ltb, Decides, arith}
use Rattle.std.proofs.lemmas.Bool.{ltb-true, lt-ltb}
use Rattle.layout.specs.Address.{blocks_of}
use Rattle.layout.specs.Placing.{Share}

-- where the other image begins in this one, it shares its first block, unless it has no bytes
pub shared_at_other : (first len other other_len : ℕ) → first ≤ other → other - first < blocks_of len
    → Decides (ltb 0 other_len) (Share first len other other_len)
shared_at_other first len other other_len le lt = (
  (λ e. let some = ltb-true 0 other_len e in (other, (le, omega arith), (omega arith, omega arith))),
  (λ s. lt-ltb 0 other_len (omega arith)),
)

-- the same with the two in turn
pub shared_at_first : (first len other other_len : ℕ) → other < first → first - other < blocks_of other_len
    → Decides (ltb 0 len) (Share first len other other_len)
shared_at_first first len other other_len lt near = (
  (λ e. let some = ltb-true 0 len e in (first, (omega arith, omega arith), (omega arith, omega arith))),
  (λ s. lt-ltb 0 len (omega arith)),
)
