-- Stores that can be read.
use Rattle.std.specs.Prelude.{◌≡◌, true}
use Rattle.store.specs.Medium.{Medium, Whole}

-- A store is live, and its blocks have 512 bytes: a read of one of them is done.
abbrev pub Readable : Medium → Type 0
Readable m = (m.live ≡ true) × Whole m.blocks
