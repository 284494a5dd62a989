-- What may be executed and what is guarded while an image runs, or none.
use Rattle.std.specs.Prelude.{ℕ, ◌≤◌, ◌⊎◌, Some, None, Option}
use Rattle.layout.specs.declared.place.Place.{Place}
use Rattle.layout.specs.Address.{blocks_of, ermin, ermax, InBlocks}

-- Outside the core's own region the bytes of the image are executable, and nothing else.
abbrev pub Executable : Option Place → ℕ → Type 0
Executable (Some p) address = (ermin p.first ≤ address) × (address ≤ ermax p.first p.len)
Executable None address = ⊥

-- Pointer, vectors and flag, in blocks 0 to 2, are guarded, and so are the image's blocks, all of them to the last
-- byte: a write behind the image's end rewrites its last block.
abbrev pub Guarded : Option Place → ℕ → Type 0
Guarded (Some p) address = InBlocks 0 3 address ⊎ InBlocks p.first (blocks_of p.len) address
Guarded None address = InBlocks 0 3 address
