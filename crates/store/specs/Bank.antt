-- What the plain store and the chip store have in common: blocks in a memory, and a plan by which the supply fails.
use Rattle.std.specs.Prelude.{◌≡◌, ℕ, ◌/◌, Bool, true, false, ◌⊎◌, List, length, Some, None, Ok, Err, Option, Result}
use Rattle.store.specs.declared.fault.Cause.TheVariants.{Dark}
use Rattle.store.specs.declared.fault.Fault.{Fault}
use Rattle.store.specs.declared.memory.MemoryStore.{MemoryStore}
use Rattle.store.specs.Calls.{Admitting}
use Rattle.store.specs.Faults.{arisen}
use Rattle.store.specs.Medium.{Medium}
use Rattle.store.specs.Memory.{block_at, laid, lowest}

-- The memory that holds the blocks, the mark, and the plan, of any kind.
pub record Bank (Plan : Type 0) : Type 0 where
  pub memory : List ℕ
  pub live : Bool
  pub plan : Option Plan

-- One with these parts.
abbrev pub bank : {Plan : Type 0} → List ℕ → Bool → Option Plan → Bank Plan
bank memory live plan = record { memory = memory; live = live; plan = plan }

-- The store that it is.
abbrev pub meaning : {Plan : Type 0} → Bank Plan → Medium
meaning s = lowest s.memory s.live

-- Live again; a plan that is not used up stays.
abbrev pub awake : {Plan : Type 0} → Bank Plan → Bank Plan
awake s = bank s.memory true s.plan

-- With a new plan in place of the old one.
abbrev pub planned : {Plan : Type 0} → Bank Plan → Plan → Bank Plan
planned s plan = bank s.memory s.live (Some plan)

-- How plans of one kind treat a write of `new` over a block that holds `old`.
pub record Cutting (Plan : Type 0) : Type 1 where
  -- Passes plan old new rest: the write is done, and `rest` is left of the plan.
  pub Passes : Plan → List ℕ → List ℕ → Plan → Type 0
  -- Cuts plan old new torn: the write is cut, and the block then holds `torn`.
  pub Cuts : Plan → List ℕ → List ℕ → List ℕ → Type 0

-- The plan lets the write be done, and `rest` is the plan after it. Without a plan every write is done.
abbrev pub Spares : {Plan : Type 0} → Cutting Plan → Option Plan → List ℕ → List ℕ → Option Plan → Type 0
Spares k None old new rest = rest ≡ None
Spares k (Some plan) old new None = ⊥
Spares k (Some plan) old new (Some rest) = k.Passes plan old new rest

-- The plan cuts the write, and the block then holds `torn`.
abbrev pub Tears : {Plan : Type 0} → Cutting Plan → Option Plan → List ℕ → List ℕ → List ℕ → Type 0
Tears k None old new torn = ⊥
Tears k (Some plan) old new torn = k.Cuts plan old new torn

-- A write of `new` over a block that holds `old` ends so under a plan: it is done, and leaves a plan; or it is cut, and
-- leaves none. The block then holds `after`.
abbrev pub Ending : {Plan : Type 0} → Cutting Plan → Plan → List ℕ → List ℕ → Option Plan → List ℕ → Type 0
Ending k plan old new (Some rest) after = k.Passes plan old new rest × (after ≡ new)
Ending k plan old new None after = k.Cuts plan old new after

-- The tests ahead of a write answer r.
abbrev pub Tests : {Plan : Type 0} → Bank Plan → ℕ → List ℕ → Result Unit Fault → Type 0
Tests s b x r = Admitting (length x) b (length s.memory / 512) s.live r

-- A write of x into block b answers r and makes the store s the store t, exactly: done, refused, which uses nothing
-- of the plan, or cut, which uses it up.
abbrev pub Storing : {Plan : Type 0} → Cutting Plan → Bank Plan → ℕ → List ℕ → Result Unit Fault → Bank Plan → Type 0
Storing k s b x (Ok _) t =
    Tests s b x (Ok tt)
    × (t.memory ≡ laid s.memory b x)
    × Spares k s.plan (block_at s.memory b) x t.plan
    × (t.live ≡ true)
Storing k s b x (Err f) t =
    (Tests s b x (Err f) × (t ≡ s))
    ⊎ (Tests s b x (Ok tt)
    × (f ≡ arisen Dark b)
    × ((torn : List ℕ) × Tears k s.plan (block_at s.memory b) x torn × (t.memory ≡ laid s.memory b torn))
    × (t.live ≡ false)
    × (t.plan ≡ None))

-- What a store in a memory holds.
abbrev pub bank_of : {M Plan : Type 0} → MemoryStore M Plan → Bank Plan
bank_of s = bank s.memory.now s.live s.plan
