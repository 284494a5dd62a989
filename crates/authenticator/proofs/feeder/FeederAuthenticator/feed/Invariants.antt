use Rattle.std.proofs.Common.{◌≡◌, length}
use Rattle.authenticator.specs.Feeding.{held, bytes}
use Rattle.authenticator.proofs.feeder.FeederAuthenticator.feed.Given as goal

-- what is left of the part, fed to what is held now, gives what the part gives
abbrev pub invariant-loop-left : goal.invariant-loop-left
invariant-loop-left g l =
    let m = g.C.BlockCore in
    let k = m.key l.initial.self.core in
    (m.key l.self.core ≡ k)
    × (bytes g.row.W (m.chaining.step k) (held (m.value l.self.core) l.self.used l.self.block) l.left
    ≡ bytes g.row.W (m.chaining.step k) (held (m.value l.initial.self.core) l.initial.self.used l.initial.self.block) l.part)

abbrev pub decreases-loop-left : goal.decreases-loop-left
decreases-loop-left g l = length l.left
