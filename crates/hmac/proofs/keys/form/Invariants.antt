use Rattle.std.proofs.Common.{◌≡◌, ◌++◌, map, take, drop}
use lib.Bits.{bit_xor}
use Rattle.hmac.proofs.Pads.{filled}
use Rattle.hmac.proofs.keys.form.Given as goal

abbrev pub invariant-loop-byte : goal.invariant-loop-byte
invariant-loop-byte l = l.pads ≡ map (λ b. bit_xor b l.mark) (take l.byte-index (filled l.key)) ++ drop l.byte-index (filled l.key)
