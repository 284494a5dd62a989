-- The check of a control block: the CRC of 16 bits with the polynomial 1021 hex, from FFFF hex, the high bit of each
-- byte first, and no change at the end.
use Rattle.std.specs.Prelude.{ℕ, zero, suc, ◌*◌, ◌%◌, ◌^◌, cond, List, fold, bit_xor, nat_le}

-- One bit on: the register moves up by one within its 16 bits, and where a one leaves it, the polynomial is added.
abbrev pub shifted : ℕ → ℕ
shifted register = cond (nat_le 0x8000 register) (bit_xor (register * 2 % 2 ^ 16) 0x1021) (register * 2 % 2 ^ 16)

-- So many bits on.
abbrev pub shifts : ℕ → ℕ → ℕ
shifts zero register = register
shifts (suc n) register = shifted (shifts n register)

-- A byte goes in over the upper eight bits.
abbrev pub taken : ℕ → ℕ → ℕ
taken register byte = shifts 8 (bit_xor register (byte * 2 ^ 8))

abbrev pub crc_of : List ℕ → ℕ
crc_of bytes = fold taken 0xFFFF bytes
