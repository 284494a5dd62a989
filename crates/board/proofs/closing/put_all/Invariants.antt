use Rattle.std.proofs.Common.{◌+◌, drop, Result}
use Rattle.store.specs.Medium.{Medium}
use Rattle.board.specs.declared.answers.Supply.{Supply}
use Rattle.board.specs.Planned.{plans}
use Rattle.board.specs.Rows.{Row}
use Rattle.board.proofs.closing.put_all.Given as goal

abbrev pub invariant-loop-i : goal.invariant-loop-i
invariant-loop-i g l =
    (r : Result Unit Supply) (e : Medium) → Row (l.write + l.i) (plans (drop l.i l.contents)) (g.S.Store.medium l.store) r e
    → Row l.write (plans l.contents) (g.S.Store.medium l.initial.store) r e
