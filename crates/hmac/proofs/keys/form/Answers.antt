use Rattle.std.proofs.Common.{◌≡◌, length, arith, rules}
use lib.Bits.{bit_xor}
use Rattle.std.proofs.lemmas.List.Edits.{map_over_more}
use Rattle.hmac.proofs.Pads.{filled, length-filled, pad_whole}
use Rattle.hmac.proofs.keys.form.Goals as goal

pub loop-byte-preserved : goal.loop-byte-preserved
loop-byte-preserved c =
    let long : length (filled c.args.key.now) ≡ 64 = length-filled c.args.key.now c.told-key in
    map_over_more (λ b. bit_xor b c.args.mark) (filled c.args.key.now) c.loop-byte.pads c.loop-byte.byte-index _ (omega arith) c.loop-byte.invariant (search rules)

pub returns : goal.returns
returns c = pad_whole c.args.mark c.loop-byte.byte-index c.loop-byte.pads c.args.key.now c.told-key c.loop-byte-test.false c.loop-byte.invariant
