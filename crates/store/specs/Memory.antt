-- Blocks in a memory.
use Rattle.std.specs.Prelude.{ℕ, ◌*◌, ◌/◌, Bool, List, ◌++◌, map, length, take, drop, replicate}
use Rattle.std.specs.List.{range_with_len}
use Rattle.store.specs.Medium.{Medium}

-- Block b of a memory.
abbrev pub block_at : List ℕ → ℕ → List ℕ
block_at memory b = take 512 (drop (512 * b) memory)

-- All whole blocks of a memory.
unfoldable pub blocks_in : List ℕ → List (List ℕ)
blocks_in memory = map (block_at memory) (range_with_len 0 (length memory / 512))

-- The bytes past the last whole block.
unfoldable pub remainder : List ℕ → List ℕ
remainder memory = drop (512 * (length memory / 512)) memory

-- The memory with other bytes in the place of block b.
abbrev pub laid : List ℕ → ℕ → List ℕ → List ℕ
laid memory b x = take (512 * b) memory ++ (x ++ drop 512 (drop (512 * b) memory))

-- A block of one byte, repeated.
unfoldable pub filled : ℕ → List ℕ
filled byte = replicate 512 byte

-- The meaning of a store that lies over no other, with its blocks in a memory.
abbrev pub lowest : List ℕ → Bool → Medium
lowest memory live = record { blocks = blocks_in memory; live = live; place = (λ b. b); layers = 0 }
