-- The plain store's plan.
use Rattle.std.specs.Prelude.{◌≡◌, ℕ, ◌-◌, ◌<◌, List}
use Rattle.store.specs.declared.plain.CutPlan.{CutPlan}
use Rattle.store.specs.declared.plain.Residue.{Residue}
use Rattle.store.specs.declared.plain.Residue.TheVariants.{Old, New, Repeated}
use Rattle.store.specs.Bank.{Cutting}
use Rattle.store.specs.Memory.{filled}

-- What a cut leaves of a block that held `old` and was to hold `new`.
abbrev pub residue_of : Residue → List ℕ → List ℕ → List ℕ
residue_of Old old new = old
residue_of New old new = new
residue_of (Repeated byte) old new = filled byte

-- So many writes are done, each counted; the next one is cut.
abbrev pub plain_cutting : Cutting CutPlan
plain_cutting = record {
  Passes = λ plan old new rest. (0 < plan.writes) × (rest ≡ record { writes = plan.writes - 1; leaves = plan.leaves });
  Cuts = λ plan old new torn. (plan.writes ≡ 0) × (torn ≡ residue_of plan.leaves old new);
}
