-- Where the factory's image goes.
use Rattle.std.specs.Prelude.{◌≡◌, ℕ, ◌≤◌, ◌⊎◌, List, length}
use Rattle.refusal.specs.declared.Refusal.{Refusal}
use Rattle.refusal.specs.declared.Refusal.TheVariants.{StoreSize, BadImage}
use Rattle.layout.specs.declared.place.Place.{Place}
use Rattle.layout.specs.Image.{IsImage}
use Rattle.layout.specs.Placing.{GoesPast}

-- A store of `count` blocks has the right size; the image may be loaded there.
abbrev pub Sized : ℕ → Type 0
Sized count = (8 ≤ count) × (count ≤ 112)

abbrev pub Loadable : ℕ → List ℕ → Type 0
Loadable count image = IsImage image × (GoesPast count 4 (length image) → ⊥)

-- The image's place, from block 4 on.
abbrev pub FactoryPlace : ℕ → List ℕ → Place → Type 0
FactoryPlace count image p = Sized count × Loadable count image × (p.first ≡ 4) × (p.len ≡ length image)

-- Why it has none, in the order of the tests.
abbrev pub Unplaced : ℕ → List ℕ → Refusal → Type 0
Unplaced count image e =
    ((Sized count → ⊥) × (e ≡ StoreSize)) ⊎ (Sized count × (Loadable count image → ⊥) × (e ≡ BadImage))
