use Rattle.std.proofs.Common.{◌≡◌, [], ◌∷◌, length, string_bytes, ap, arith}
use lib.Utf8.{encode}
use Rattle.commands.proofs.Hexed.{written_more, written_all, round_trip}
use Rattle.commands.proofs.hex.push_hex.Goals as goal

pub loop-b-preserved : goal.loop-b-preserved
loop-b-preserved c =
    let more = written_more (string_bytes c.loop-b.text) _ c.args.bytes.now c.loop-b.b-index c.loop-b-test.true c.loop-b.invariant.0 in
    let high : encode c.digit.result ≡ c.digit.result ∷ [] = c.in_ok-push.ensures.ascii c.digit.ensures.ascii in
    let low : encode c.digit-in-loop-b.result ≡ c.digit-in-loop-b.result ∷ [] = c.in_ok-push-2.ensures.ascii c.digit-in-loop-b.ensures.ascii in
    let first = c.in_ok-push.ensures in
    let second = c.in_ok-push-2.ensures in
    (cc, omega (arith, ap length high, ap length low))

pub returns : goal.returns
returns c =
    let all = written_all (string_bytes c.loop-b.text) _ c.args.bytes.now c.loop-b.b-index c.loop-b-test.false c.loop-b.invariant.0 in
    let kept = c.in_ok-reserve.ensures.bytes in
    record { bytes = cc; back = round_trip _ (λ k. omega (arith, c.type_inv.bytes k)); refused = tt }
