-- The control blocks: what they hold, and when they stand.
use Rattle.std.specs.Prelude.{◌≡◌, ℕ, ◌-◌, ◌/◌, ◌%◌, cond, List, [], ◌∷◌, ◌++◌, length, take, replicate, slice_index, slice_index_or}
use Rattle.std.specs.Str.{bytes_eq}
use Rattle.layout.specs.Address.{ermin, ermax}
use Rattle.layout.specs.Image.{length_of}
use Rattle.layout.specs.Placing.{Lies}
use Rattle.control.specs.declared.kind.Control.{Control}
use Rattle.control.specs.declared.kind.Control.TheVariants as control
use Rattle.control.specs.declared.kind.Flag.{Flag}
use Rattle.control.specs.declared.kind.Flag.TheVariants.{Finished, Unfinished}
use Rattle.control.specs.Crc.{crc_of}

-- What a block holds, and zeros up to byte 509.
abbrev pub body : List ℕ → List ℕ
body held = held ++ replicate (510 - length held) 0

-- The control block that holds these bytes: its bytes 510 and 511 are the check of those ahead, high byte first.
unfoldable pub formed : List ℕ → List ℕ
formed held = body held ++ (crc_of (body held) / 256 ∷ crc_of (body held) % 256 ∷ [])

-- Which block is which.
abbrev pub block_of : Control → ℕ
block_of control.Pointer = 0
block_of control.Vectors = 1
block_of control.Flag = 2
block_of control.BufferPointer = 3

-- How many bytes a control block holds, by its kind.
abbrev pub size_of : Control → ℕ
size_of control.Pointer = 4
size_of control.Vectors = 32
size_of control.Flag = 1
size_of control.BufferPointer = 4

-- A block stands when it is the one that holds its own first bytes: fill and check are right.
abbrev pub Stands : Control → List ℕ → Type 0
Stands control block = block ≡ formed (take (size_of control) block)

-- The fill is right behind the first n bytes; the check is right.
abbrev pub Filled : ℕ → List ℕ → Type 0
Filled n block = take 510 block ≡ body (take n block)

abbrev pub Checked : List ℕ → Type 0
Checked block = (slice_index block 510 ≡ crc_of (take 510 block) / 256) × (slice_index block 511 ≡ crc_of (take 510 block) % 256)

-- A two-byte number, low byte first.
abbrev pub two : ℕ → List ℕ
two n = n % 256 ∷ n / 256 ∷ []

-- The pointer block, EP or bEP, of an image of len bytes from block `first` on: ERmin and ERmax.
abbrev pub pointer_to : ℕ → ℕ → List ℕ
pointer_to first len = formed (two (ermin first) ++ two (ermax first len))

-- A block points to len bytes from block `first` on, which are a place in a store of `count` blocks: it stands, its
-- ERmin begins a block behind the control blocks, its ERmax lies in the store, and it spans at least 46 bytes.
abbrev pub Points : ℕ → List ℕ → ℕ → ℕ → Type 0
Points count block first len = (block ≡ pointer_to first len) × Lies count first len

-- In a store's blocks, block p is a legal pointer block: the image there gives itself the length that it spans.
abbrev pub Legal : List (List ℕ) → ℕ → ℕ → ℕ → Type 0
Legal blocks p first len =
    Points (length blocks) (slice_index_or blocks p []) first len × (length_of (slice_index_or blocks first []) ≡ len)

-- The flag block.
abbrev pub flag_byte : Flag → ℕ
flag_byte Finished = 0
flag_byte Unfinished = 1

abbrev pub flag_block : Flag → List ℕ
flag_block flag = formed (flag_byte flag ∷ [])

-- It reads finished exactly when it stands with 0.
abbrev pub flag_in : List ℕ → Flag
flag_in block = cond (bytes_eq block (flag_block Finished)) Finished Unfinished
