use Rattle.std.proofs.Common.{[], length, sym, ap, ◌∙◌, arith}
use Rattle.board.proofs.Cleared.{cleared_same}
use Rattle.board.proofs.states.Running.offer.Goals as goal

pub returns : goal.returns
returns g c =
    let whole = c.in-Some.ensures.cases in
    let done = c.examine-answer.ensures in
    let s = done.call in
    record {
      key = done.key;
      call = rw (sym whole.same) (
        [],
        record {
          outcome = s.outcome;
          scratch_left = c.clear.ensures ∙ (cleared_same _ _ (omega (arith, whole.long, ap length whole.same)) ∙ s.scratch_left);
          state_left = s.state_left;
        },
      );
    }
