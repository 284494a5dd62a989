-- SHA-256 of a message of bytes: FIPS 180-4, sections 5.1.1, 5.2.1, 5.3.3 and 6.2.
use Rattle.std.specs.Prelude.{ℕ, zero, suc, ◌-◌, ◌*◌, ◌/◌, ◌%◌, ◌^◌, List, [], ◌∷◌, ◌++◌, length, take, drop, replicate}
use Rattle.sha256.specs.Compression.{compressed}

-- 5.3.3: the chaining value at the start of a message
abbrev pub initial : List ℕ
initial = 0x6a09e667 ∷ 0xbb67ae85 ∷ 0x3c6ef372 ∷ 0xa54ff53a ∷ 0x510e527f ∷ 0x9b05688c ∷ 0x1f83d9ab ∷ 0x5be0cd19 ∷ []

-- a word as four bytes, and a number below 2 ^ 64 as eight, the highest first
abbrev pub bytes4 : ℕ → List ℕ
bytes4 x = x / 2 ^ 24 % 256 ∷ x / 2 ^ 16 % 256 ∷ x / 2 ^ 8 % 256 ∷ x % 256 ∷ []

abbrev pub bytes8 : ℕ → List ℕ
bytes8 x =
    x / 2 ^ 56 % 256 ∷ x / 2 ^ 48 % 256 ∷ x / 2 ^ 40 % 256 ∷ x / 2 ^ 32 % 256 ∷
    x / 2 ^ 24 % 256 ∷ x / 2 ^ 16 % 256 ∷ x / 2 ^ 8 % 256 ∷ x % 256 ∷ []

-- 6.2.2, the end: the words of a chaining value as bytes
unfoldable pub digest : List ℕ → List ℕ
digest [] = []
digest (w ∷ ws) = bytes4 w ++ digest ws

-- 5.1.1: what follows a message of n bytes: a bit 1, zeros up to 8 bytes below a whole block, and the count of the message's bits
unfoldable pub padding : ℕ → ℕ → List ℕ
padding n bits = 0x80 ∷ (replicate ((119 - n % 64) % 64) 0 ++ bytes8 bits)

-- 6.2.2: the chaining value after the first n blocks of m
unfoldable pub chained : ℕ → List ℕ → List ℕ → List ℕ
chained zero h m = h
chained (suc n) h m = chained n (compressed h (take 64 m)) (drop 64 m)

-- the hash of a message whose whole blocks up to here gave the chaining value h, of which `rest` is left, and which has `bits` bits in all
unfoldable pub finished : List ℕ → List ℕ → ℕ → List ℕ
finished h rest bits = let p = rest ++ padding (length rest) bits in digest (chained (length p / 64) h p)

-- the hash of a message; the count of its bits wraps at 2 ^ 64, the standard's limit
unfoldable pub sha256 : List ℕ → List ℕ
sha256 m = finished initial m (8 * length m % 2 ^ 64)
