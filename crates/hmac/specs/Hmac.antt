-- HMAC with SHA-256, after RFC 2104, for keys of at most a block.
use Rattle.std.specs.Prelude.{ℕ, ◌-◌, List, ◌++◌, map, length, replicate, bit_xor}
use Rattle.sha256.specs.Hash.{sha256}

-- A key pad: the key, filled with zeros to a block of 64 bytes, each byte xor the mark.
unfoldable pub pad : ℕ → List ℕ → List ℕ
pad mark key = map (λ b. bit_xor b mark) (key ++ replicate (64 - length key) 0)

abbrev pub inner_pad : List ℕ → List ℕ
inner_pad key = pad 0x36 key

abbrev pub outer_pad : List ℕ → List ℕ
outer_pad key = pad 0x5c key

unfoldable pub hmac : List ℕ → List ℕ → List ℕ
hmac key message = sha256 (outer_pad key ++ sha256 (inner_pad key ++ message))
