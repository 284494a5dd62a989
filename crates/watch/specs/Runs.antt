-- Runs of the watch: what becomes of many cycles, one after the other, from reset on.
use Rattle.std.specs.Prelude.{◌≡◌, ℕ, suc, false, ◌⊎◌, List, [], ◌∷◌, None, Option}
use Rattle.std.specs.List.{AllByRecursion}
use Rattle.layout.specs.Address.{InTcr}
use Rattle.layout.specs.declared.place.Place.{Place}
use Rattle.layout.specs.Running.{Executable, Guarded}
use Rattle.watch.specs.declared.cycle.Cycle.{Cycle}
use Rattle.watch.specs.declared.cycle.Verdict.{Verdict}
use Rattle.watch.specs.declared.cycle.Verdict.TheVariants as verdict
use Rattle.watch.specs.declared.cycle.Watch.{Watch}
use Rattle.watch.specs.declared.cycle.Watch.TheVariants.{Reset}
use Rattle.watch.specs.Rules.{Out, Writes, Steps}

-- What the step answers to each cycle, from a state on.
abbrev pub Answered : Option Place → Watch → List Cycle → List (Verdict × Watch) → Type 0
Answered running state [] [] = Unit {0}
Answered running state [] (a ∷ answers) = ⊥
Answered running state (c ∷ cycles) [] = ⊥
Answered running state (c ∷ cycles) (a ∷ answers) = Steps running state c a × Answered running a.1 cycles answers

-- The state after these answers.
abbrev pub state_after : Watch → List (Verdict × Watch) → Watch
state_after state [] = state
state_after state (a ∷ answers) = state_after a.1 answers

-- How many passes there are ahead of the first reset.
abbrev pub counted : Verdict → ℕ → ℕ
counted verdict.Pass n = suc n
counted verdict.Reset n = 0

abbrev pub passes : List (Verdict × Watch) → ℕ
passes [] = 0
passes (a ∷ answers) = counted a.0 (passes answers)

-- The run through these cycles from reset on: its last state, and the number of its leading passes.
abbrev pub Runs : Option Place → List Cycle → Watch × ℕ → Type 0
Runs running cycles r =
    (answers : List (Verdict × Watch)) × Answered running Reset cycles answers
    × (r.0 ≡ state_after Reset answers) × (r.1 ≡ passes answers)

-- Of the first cycle, if there is one; and of each two in a row.
abbrev pub First : (Cycle → Type 0) → List Cycle → Type 0
First P [] = Unit {0}
First P (c ∷ cycles) = P c

abbrev pub EachNext : (Cycle → Cycle → Type 0) → List Cycle → Type 0
EachNext R [] = Unit {0}
EachNext R (a ∷ cycles) = First (λ b. R a b) cycles × EachNext R cycles

-- What the watch is for: in the cycles that pass from reset on,
pub record Kept (running : Option Place) (passed : List Cycle) : Type 0 where
  -- no guarded address is written from outside TCR, by the core or by DMA,
  pub unwritten : AllByRecursion (λ c. Out c → (address : ℕ) → Writes c address → Guarded running address → ⊥) passed
  -- TCR is entered at 0 only, in the first cycle and from outside,
  pub begun : First (λ c. c.pc ≡ 0) passed
  pub entered : EachNext (λ a b. Out a → InTcr b.pc → b.pc ≡ 0) passed
  -- it is left from 2047 only,
  pub left : EachNext (λ a b. InTcr a.pc → Out b → a.pc ≡ 2047) passed
  -- there is neither an interrupt nor DMA in it,
  pub quiet : AllByRecursion (λ c. InTcr c.pc → (c.interrupt ≡ false) × (c.dma_at ≡ None)) passed
  -- and outside it nothing is executed but the running image.
  pub executed : AllByRecursion (λ c. InTcr c.pc ⊎ Executable running c.pc) passed
