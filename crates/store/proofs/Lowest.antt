-- The tests that a store in a memory makes are those of its meaning.
use Rattle.std.proofs.Common.{ℕ, ◌/◌, Bool, List, length, Ok, Err}
use Rattle.store.specs.declared.fault.Fault.{Fault}
use Rattle.store.specs.Calls.{Admitting, Ready, Refuses}
use Rattle.store.specs.Memory.{lowest}
use Rattle.store.proofs.Blocks.{length-blocks}

-- they passed: the store does what it is asked
pub ready : (memory : List ℕ) (live : Bool) (b n : ℕ) → Admitting n b (length memory / 512) live (Ok tt) → Ready (lowest memory live) b n
ready memory live b n q = rw (length-blocks memory) q

-- one of them failed: the store refuses
pub refused : (memory : List ℕ) (live : Bool) (b n : ℕ) (f : Fault) → Admitting n b (length memory / 512) live (Err f) → Refuses (lowest memory live) b n f
refused memory live b n f q = rw (length-blocks memory) q
