-- What a store means.
use Rattle.std.specs.Prelude.{◌≡◌, ℕ, ◌<◌, Bool, true, List, [], length, slice_index_or, slice_set}
use Rattle.store.specs.declared.fault.Cause.TheVariants.{Dark}
use Rattle.store.specs.declared.fault.Fault.{Fault}

-- The blocks, and the mark; and what a dark store's fault tells: where each block lies in the lowest store, and how
-- many layers stand over that one.
pub record Medium : Type 0 where
  pub blocks : List (List ℕ)
  pub live : Bool
  pub place : ℕ → ℕ
  pub layers : ℕ

-- Every block has 512 bytes.
abbrev pub Whole : List (List ℕ) → Type 0
Whole blocks = (b : ℕ) → b < length blocks → length (slice_index_or blocks b []) ≡ 512

-- What block b holds.
abbrev pub held : Medium → ℕ → List ℕ
held m b = slice_index_or m.blocks b []

-- The store made live, its blocks kept.
abbrev pub woken : Medium → Medium
woken m = record { blocks = m.blocks; live = true; place = m.place; layers = m.layers }

-- Block b, and no other, holds the bytes x now, and the mark is `live`.
abbrev pub after : Medium → ℕ → List ℕ → Bool → Medium
after m b x live = record { blocks = slice_set m.blocks b x; live = live; place = m.place; layers = m.layers }

-- The fault of a dark store: it comes up from the lowest store through all layers.
abbrev pub dark : Medium → ℕ → Fault
dark m b = record { cause = Dark; origin = m.place b; block = b; layers = m.layers }
