use Rattle.std.proofs.Common.{◌≡◌, ◌-◌, length, take, ap, ◌∙◌, arith, rules}
use Rattle.std.proofs.lemmas.List.{length-take-le}
use Rattle.authenticator.specs.Feeding.{held}
use Rattle.authenticator.proofs.Feeds.{turn}
use Rattle.authenticator.proofs.feeder.FeederAuthenticator.feed.Goals as goal

pub loop-left-preserved : goal.loop-left-preserved
loop-left-preserved g c =
    let m = g.C.BlockCore in
    let l = c.loop-left in
    let roomy = c.make_room.new.self in
    let after = c.gather-left.new.self in
    let h = held (m.value l.self.core) l.self.used l.self.block in
    let waiting : length (take roomy.used roomy.block) ≡ roomy.used = length-take-le roomy.used roomy.block (omega arith) in
    let t = turn g.row.W (m.chaining.step (m.key l.self.core)) h (m.value roomy.core) (m.value after.core) (take roomy.used roomy.block)
    (take after.used after.block) l.left.now c.gather-left.result.now (after.used - roomy.used)
    g.met.C.BlockCore.wide (search rules) (omega arith) (omega arith) c.make_room.ensures.state (ap m.value c.gather-left.ensures.core)
    c.gather-left.ensures.block c.gather-left.ensures.left in
    (ap m.key c.gather-left.ensures.core ∙ c.make_room.ensures.key ∙ l.invariant.0, rw (l.invariant.0) at t ∙ l.invariant.1)
