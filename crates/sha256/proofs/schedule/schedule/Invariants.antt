use Rattle.std.proofs.Common.{◌*◌}
use Rattle.sha256.proofs.Turns.{Scheduled}
use Rattle.sha256.proofs.schedule.schedule.Given as goal

abbrev pub invariant-loop-i : goal.invariant-loop-i
invariant-loop-i l = Scheduled (8 * l.i) l.words l.block
