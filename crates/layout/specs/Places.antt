-- The place that is found for an image.
use Rattle.std.specs.Prelude.{◌≡◌, ℕ, Some, None, Option}
use Rattle.layout.specs.declared.place.Place.{Place}
use Rattle.layout.specs.Address.{ermin, ermax}
use Rattle.layout.specs.Placing.{Lies}

-- The place for len bytes from block `first` on in a store of `count` blocks, if it is one.
abbrev pub Placed : ℕ → ℕ → ℕ → Option Place → Type 0
Placed count first len (Some p) = Lies count first len × (p.first ≡ first) × (p.len ≡ len)
Placed count first len None = Lies count first len → ⊥

-- The place whose first and last byte have these addresses in a store of `count` blocks, if there is one.
abbrev pub Between : ℕ → ℕ → ℕ → Option Place → Type 0
Between count min max (Some p) =
    (min ≡ ermin p.first) × (max ≡ ermax p.first p.len) × Lies count p.first p.len
Between count min max None =
    (first len : ℕ) → min ≡ ermin first → max ≡ ermax first len → Lies count first len → ⊥
