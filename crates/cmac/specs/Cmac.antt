-- AES-CMAC: RFC 4493, sections 2.3 and 2.4. A key, a subkey and a tag have sixteen bytes, a message has any number.
use Rattle.std.specs.Prelude.{ℕ, zero, suc, ◌+◌, ◌-◌, ◌*◌, ◌/◌, ◌%◌, ◌^◌, max, cond, List, ◌∷◌, ◌++◌, length, take, drop, replicate, ◌==◌, bit_xor}
use Rattle.aes.specs.Cipher.{cipher}
use Rattle.cmac.specs.Blocks.{zeros, xored, number, bytes_of}

-- 2.3: a number of 128 bits moved by one to the left, and 0x87 added where its highest bit was set
abbrev pub twice : ℕ → ℕ
twice n = let moved = n * 2 % 2 ^ 128 in cond (n / 2 ^ 127 == 1) (bit_xor moved 0x87) moved

unfoldable pub doubled : List ℕ → List ℕ
doubled block = bytes_of (twice (number block))

-- 2.3: the subkeys, for a last block that is complete and for one that is padded
abbrev pub subkey1 : List ℕ → List ℕ
subkey1 key = doubled (cipher key zeros)

abbrev pub subkey2 : List ℕ → List ℕ
subkey2 key = doubled (subkey1 key)

-- 2.4: less than a block, padded with the bit 1 and zeros
abbrev pub padding : List ℕ → List ℕ
padding rest = rest ++ 0x80 ∷ replicate (15 - length rest) 0

-- 2.4, step 4: the last block, with its subkey
unfoldable pub last : List ℕ → List ℕ → List ℕ
last key rest = cond (length rest == 16) (xored rest (subkey1 key)) (xored (padding rest) (subkey2 key))

-- 2.4, step 6: the chain over the first n blocks of a message, from x
unfoldable pub chained : ℕ → List ℕ → List ℕ → List ℕ → List ℕ
chained zero key x message = x
chained (suc n) key x message = chained n key (cipher key (xored x (take 16 message))) (drop 16 message)

-- 2.4, the end of step 6: the tag
abbrev pub closed : List ℕ → List ℕ → List ℕ → List ℕ
closed key x rest = cipher key (xored (last key rest) x)

-- 2.4, steps 2 and 3: how many blocks a message has: one at least, of which the last may have fewer bytes or none
abbrev pub blocks : List ℕ → ℕ
blocks message = max 1 ((length message + 15) / 16)

-- 2.4: the tag of a message
unfoldable pub cmac : List ℕ → List ℕ → List ℕ
cmac key message =
    let before = blocks message - 1 in closed key (chained before key zeros message) (drop (16 * before) message)
