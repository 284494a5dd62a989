use Rattle.watch.proofs.Progress.{Progress}
use Rattle.watch.proofs.runs.run.Given as goal

abbrev pub invariant-loop-i : goal.invariant-loop-i
invariant-loop-i l = Progress l.running l.cycles l.i l.state l.passes
