-- Addresses: where blocks, and an image in them, lie on the bus.
use Rattle.std.specs.Prelude.{ℕ, ◌+◌, ◌-◌, ◌*◌, ◌/◌, ◌<◌, ◌≤◌}

-- The core's own region, the trusted code region: 0 to 2047.
abbrev pub InTcr : ℕ → Type 0
InTcr address = address < 2048

-- The address of byte i of block b.
abbrev pub address_of : ℕ → ℕ → ℕ
address_of b i = 8192 + 512 * b + i

-- The blocks that have addresses are those below 112: addresses have 16 bits.
abbrev pub Addressed : ℕ → Type 0
Addressed b = b < 112

-- The number of blocks that an image of so many bytes fills.
abbrev pub blocks_of : ℕ → ℕ
blocks_of len = (len + 511) / 512

-- The first and the last byte of an image of len bytes from block `first` on, and its entry, behind the header.
abbrev pub ermin : ℕ → ℕ
ermin first = address_of first 0

abbrev pub ermax : ℕ → ℕ → ℕ
ermax first len = ermin first + len - 1

abbrev pub entry : ℕ → ℕ
entry first = ermin first + 12

-- An address in n blocks from block `first` on.
abbrev pub InBlocks : ℕ → ℕ → ℕ → Type 0
InBlocks first n address = (address_of first 0 ≤ address) × (address < address_of (first + n) 0)
