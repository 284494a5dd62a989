-- Where an image may lie.
use Rattle.std.specs.Prelude.{ℕ, ◌+◌, ◌<◌, ◌≤◌, min}
use Rattle.layout.specs.Address.{blocks_of}

-- The end of the blocks of a store that images may lie in: its block count, or 112, where addresses end.
abbrev pub end_of : ℕ → ℕ
end_of count = min count 112

-- A block of a store of `count` blocks that may be staged or offered: behind the control blocks, and ahead of the end.
abbrev pub Open : ℕ → ℕ → Type 0
Open count b = (4 ≤ b) × (b < end_of count)

-- An image of len bytes from block `first` on goes past the end.
abbrev pub GoesPast : ℕ → ℕ → ℕ → Type 0
GoesPast count first len = end_of count < first + blocks_of len

-- Block b is one of the image's.
abbrev pub Fills : ℕ → ℕ → ℕ → Type 0
Fills first len b = (first ≤ b) × (b < first + blocks_of len)

-- Two images share a block.
abbrev pub Share : ℕ → ℕ → ℕ → ℕ → Type 0
Share first len other other_len = (b : ℕ) × Fills first len b × Fills other other_len b

-- A version that may take the place of the running one.
abbrev pub Newer : ℕ → ℕ → Type 0
Newer version running = running < version

-- A place for an image in a store of `count` blocks: behind the control blocks, long enough, and ahead of the end.
abbrev pub Lies : ℕ → ℕ → ℕ → Type 0
Lies count first len = (4 ≤ first) × (46 ≤ len) × (first + blocks_of len ≤ end_of count)
