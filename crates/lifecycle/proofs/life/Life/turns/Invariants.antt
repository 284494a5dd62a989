use Rattle.lifecycle.specs.Lived.{Continues}
use Rattle.lifecycle.proofs.life.Life.turns.Given as goal

abbrev pub invariant-loop : goal.invariant-loop
invariant-loop g l = Continues g.S.Store.medium g.K.Authenticator.means g.K.Authenticator.key g.K.Authenticator.state l.initial.self l.self
