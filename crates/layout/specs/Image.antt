-- An image: its length (2 bytes), its version (2 bytes), its nonce (8 bytes), the program, and the interrupt
-- vectors as its last 32 bytes.
use Rattle.std.specs.Prelude.{◌≡◌, ℕ, ◌+◌, ◌-◌, ◌*◌, ◌≤◌, List, length, take, drop, slice_index}

-- The two-byte number at a place, low byte first.
abbrev pub word : List ℕ → ℕ → ℕ
word bytes place = slice_index bytes place + slice_index bytes (place + 1) * 256

-- The length that the image gives itself: of the whole, with these two bytes.
abbrev pub length_of : List ℕ → ℕ
length_of image = word image 0

-- The version of the program.
abbrev pub version_of : List ℕ → ℕ
version_of image = word image 2

-- The nonce: the eight bytes behind the version.
abbrev pub nonce_of : List ℕ → List ℕ
nonce_of image = take 8 (drop 4 image)

-- The interrupt vectors: the last 32 bytes.
abbrev pub vectors_of : List ℕ → List ℕ
vectors_of image = drop (length image - 32) image

-- Bytes are an image if they hold a length, of at least 46, and are that many.
abbrev pub IsImage : List ℕ → Type 0
IsImage bytes = (2 ≤ length bytes) × (46 ≤ length_of bytes) × (length_of bytes ≡ length bytes)
