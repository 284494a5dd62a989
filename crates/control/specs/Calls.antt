-- What the calls on control blocks answer and leave.
use Rattle.std.specs.Prelude.{◌≡◌, ℕ, ◌⊎◌, List, length, Some, None, Ok, Err, Option, Result, ◌≢◌}
use Rattle.refusal.specs.declared.Refusal.{Refusal}
use Rattle.refusal.specs.declared.Refusal.TheVariants.{WrongLength}
use Rattle.layout.specs.declared.place.Place.{Place}
use Rattle.control.specs.Blocks.{formed, Points}

-- A buffer has the length of a block.
abbrev pub IsBlock : List ℕ → Type 0
IsBlock buffer = length buffer ≡ 512

-- A block was to be formed in a buffer: it is left there where it fits, else the buffer is as it was.
abbrev pub Forms : List ℕ → List ℕ → Result Unit Refusal → List ℕ → Type 0
Forms buffer block (Ok _) left = IsBlock buffer × (left ≡ block)
Forms buffer block (Err e) left = (IsBlock buffer → ⊥) × (e ≡ WrongLength) × (left ≡ buffer)

-- The same of a vectors block, for which the vectors have to be 32 bytes, too.
abbrev pub FormsVectors : List ℕ → List ℕ → Result Unit Refusal → List ℕ → Type 0
FormsVectors buffer vectors (Ok _) left = IsBlock buffer × (length vectors ≡ 32) × (left ≡ formed vectors)
FormsVectors buffer vectors (Err e) left =
    ((IsBlock buffer → ⊥) ⊎ (length vectors ≢ 32)) × (e ≡ WrongLength) × (left ≡ buffer)

-- A buffer was to be read as a control block: what is told of it, or that it is no block.
abbrev pub Reading : {T : Type 0} → List ℕ → (T → Type 0) → Result T Refusal → Type 0
Reading buffer Tells (Ok answer) = IsBlock buffer × Tells answer
Reading buffer Tells (Err e) = (IsBlock buffer → ⊥) × (e ≡ WrongLength)

-- The place that a pointer block points to in a store of `count` blocks, if it points to one.
abbrev pub Pointed : ℕ → List ℕ → Option Place → Type 0
Pointed count block (Some p) = Points count block p.first p.len
Pointed count block None = (first len : ℕ) → Points count block first len → ⊥
