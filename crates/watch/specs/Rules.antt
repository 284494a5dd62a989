-- The rules of the watch, each as what breaks it, and the step that they make.
use Rattle.std.specs.Prelude.{◌≡◌, ℕ, ◌<◌, ◌≤◌, true, ◌⊎◌, Some, None, IsSome, Option, ◌≢◌}
use Rattle.layout.specs.Address.{InTcr}
use Rattle.layout.specs.declared.place.Place.{Place}
use Rattle.layout.specs.Running.{Executable, Guarded}
use Rattle.watch.specs.declared.cycle.Cycle.{Cycle}
use Rattle.watch.specs.declared.cycle.Rule.{Rule}
use Rattle.watch.specs.declared.cycle.Rule.TheVariants as rule
use Rattle.watch.specs.declared.cycle.Verdict.{Verdict}
use Rattle.watch.specs.declared.cycle.Verdict.TheVariants as verdict
use Rattle.watch.specs.declared.cycle.Watch.{Watch}
use Rattle.watch.specs.declared.cycle.Watch.TheVariants.{Outside, Inside, Last, Reset}

-- The PC is outside TCR.
abbrev pub Out : Cycle → Type 0
Out c = 2048 ≤ c.pc

-- The core, or DMA, writes to an address.
abbrev pub Writes : Cycle → ℕ → Type 0
Writes c address = (c.write_at ≡ Some address) ⊎ (c.dma_at ≡ Some address)

-- W1: a guarded address is written from outside TCR.
abbrev pub W1 : Option Place → Cycle → Type 0
W1 running c = Out c × ((address : ℕ) × Writes c address × Guarded running address)

-- W2: the PC is neither in TCR nor executable.
abbrev pub W2 : Option Place → Cycle → Type 0
W2 running c = Out c × (Executable running c.pc → ⊥)

-- W3: TCR is entered from outside, and not at 0.
abbrev pub W3 : Watch → Cycle → Type 0
W3 state c = (state ≡ Outside) × (1 ≤ c.pc) × (c.pc ≤ 2047)

-- W4: TCR is left, and not from 2047.
abbrev pub W4 : Watch → Cycle → Type 0
W4 state c = (state ≡ Inside) × Out c

-- W5: an interrupt or DMA in TCR.
abbrev pub W5 : Cycle → Type 0
W5 c = InTcr c.pc × ((c.interrupt ≡ true) ⊎ IsSome c.dma_at)

-- The number of a rule.
abbrev pub number_of : Rule → ℕ
number_of rule.W1 = 1
number_of rule.W2 = 2
number_of rule.W3 = 3
number_of rule.W4 = 4
number_of rule.W5 = 5

-- A cycle breaks a rule.
abbrev pub Breaks : Option Place → Watch → Cycle → Rule → Type 0
Breaks running state c rule.W1 = W1 running c
Breaks running state c rule.W2 = W2 running c
Breaks running state c rule.W3 = W3 state c
Breaks running state c rule.W4 = W4 state c
Breaks running state c rule.W5 = W5 c

-- A cycle breaks some rule.
abbrev pub Broken : Option Place → Watch → Cycle → Type 0
Broken running state c = W1 running c ⊎ (W2 running c ⊎ (W3 state c ⊎ (W4 state c ⊎ W5 c)))

-- A cycle is not let pass: after a reset, unless it is at 0 and keeps W5; else where it breaks a rule.
abbrev pub Stopped : Option Place → Watch → Cycle → Type 0
Stopped running Outside c = Broken running Outside c
Stopped running Inside c = Broken running Inside c
Stopped running Last c = Broken running Last c
Stopped running Reset c = (c.pc ≢ 0) ⊎ W5 c

-- The state that tells where the PC was.
abbrev pub Follows : ℕ → Watch → Type 0
Follows pc Outside = 2048 ≤ pc
Follows pc Inside = pc < 2047
Follows pc Last = pc ≡ 2047
Follows pc Reset = ⊥

-- The step from a state: verdict and next state.
abbrev pub Judges : Option Place → Watch → Cycle → Verdict → Watch → Type 0
Judges running state c verdict.Pass next = (Stopped running state c → ⊥) × Follows c.pc next
Judges running state c verdict.Reset next = Stopped running state c × (next ≡ Reset)

abbrev pub Steps : Option Place → Watch → Cycle → Verdict × Watch → Type 0
Steps running state c answer = Judges running state c answer.0 answer.1

-- The first rule that a cycle breaks, if it breaks one.
abbrev pub FirstBroken : Option Place → Watch → Cycle → Option Rule → Type 0
FirstBroken running state c (Some r) =
    Breaks running state c r × ((earlier : Rule) → number_of earlier < number_of r → Breaks running state c earlier → ⊥)
FirstBroken running state c None = (r : Rule) → Breaks running state c r → ⊥

-- What that says of the step: a broken rule stops the cycle, and without one only a cycle after a reset that is not at
-- 0 is stopped.
abbrev pub Agrees : Option Place → Watch → Cycle → Option Rule → Type 0
Agrees running state c (Some r) = Stopped running state c
Agrees running state c None = Stopped running state c → (state ≡ Reset) × (c.pc ≢ 0)
