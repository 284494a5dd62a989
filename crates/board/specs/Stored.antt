-- An image in a store's blocks.
use Rattle.std.specs.Prelude.{ℕ, zero, suc, ◌-◌, List, [], ◌∷◌, ◌++◌, length, take, drop, replicate, slice_index_or}
use Rattle.std.specs.List.{flat_map}
use Rattle.layout.specs.Address.{blocks_of}
use Rattle.layout.specs.Image.{length_of}
use Rattle.layout.specs.declared.place.Place.{Place}
use Rattle.store.specs.Medium.{Medium}

-- The first len bytes from block `first` on.
unfoldable pub image_at : List (List ℕ) → ℕ → ℕ → List ℕ
image_at blocks first len = take len (flat_map (λ (b : List ℕ). b) (take (blocks_of len) (drop first blocks)))

-- The bytes of the image at a place in a store.
abbrev pub image_on : Medium → Place → List ℕ
image_on m place = image_at m.blocks place.first place.len

-- The length that an image in block `first` gives itself; and its bytes, as many as that.
abbrev pub said_at : List (List ℕ) → ℕ → ℕ
said_at blocks first = length_of (slice_index_or blocks first [])

abbrev pub image_in : List (List ℕ) → ℕ → List ℕ
image_in blocks first = image_at blocks first (said_at blocks first)

-- The block that the first bytes fill, zeros after their end; and bytes cut into n blocks.
unfoldable pub paged : List ℕ → List ℕ
paged bytes = take 512 bytes ++ replicate (512 - length (take 512 bytes)) 0

unfoldable pub pages : ℕ → List ℕ → List (List ℕ)
pages zero bytes = []
pages (suc n) bytes = paged bytes ∷ pages n (drop 512 bytes)
