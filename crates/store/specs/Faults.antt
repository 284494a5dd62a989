-- Where a fault arises, and how it comes up through the layers.
use Rattle.std.specs.Prelude.{ℕ, ◌+◌, min}
use Rattle.store.specs.declared.fault.Cause.{Cause}
use Rattle.store.specs.declared.fault.Fault.{Fault}

-- A fault where it arises: no layer is passed, and both block numbers are the one asked for.
abbrev pub arisen : Cause → ℕ → Fault
arisen cause b = record { cause = cause; origin = b; block = b; layers = 0 }

-- One layer more; the count stops at 255.
abbrev pub above : ℕ → ℕ
above layers = min (layers + 1) 255

-- A fault from below as a layer tells it: counted once more, with the layer's own number of the block.
abbrev pub passed : Fault → ℕ → Fault
passed f b = record { cause = f.cause; origin = f.origin; block = b; layers = above f.layers }
