use Rattle.std.proofs.Common.{◌≡◌, ◌*◌, ◌^◌}
use lib.Bits.{bit_xor}
use Rattle.control.specs.Crc.{shifts}
use Rattle.control.proofs.crc.take_in.Given as goal

abbrev pub invariant-loop-bit : goal.invariant-loop-bit
invariant-loop-bit l = l.shifting ≡ shifts l._bit (bit_xor l.register (l.byte * 2 ^ 8))
