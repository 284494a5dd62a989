use Rattle.std.proofs.Common.{length, sym, ap, ◌∙◌, arith}
use Rattle.board.proofs.Cleared.{cleared_same}
use Rattle.board.proofs.states.Running.cycle.Goals as goal

pub returns : goal.returns
returns g c =
    let whole = c.in-Some.ensures.cases in
    let done = c.judge-answer.ensures in
    rw (sym whole.same) (
      done.0,
      record {
        outcome = done.1.outcome;
        scratch_left = c.clear.ensures ∙ (cleared_same _ _ (omega (arith, whole.long, ap length whole.same)) ∙ done.1.scratch_left);
      },
    )
