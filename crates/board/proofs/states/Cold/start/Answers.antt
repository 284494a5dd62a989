use Rattle.std.proofs.Common.{length, sym, ap, ◌∙◌, arith}
use Rattle.board.proofs.Cleared.{cleared_same}
use Rattle.board.proofs.states.Cold.start.Goals as goal

pub returns : goal.returns
returns g c =
    let whole = c.in-Some.ensures.cases in
    let full = c.in-Some-as_mut_array.ensures.cases in
    let done = c.resume-answer.ensures in
    let s = done.call.1 in
    record {
      key = done.key;
      call = rw (sym whole.same, sym full.same) (
        done.call.0,
        record {
          outcome = s.outcome;
          scratch_left = c.clear.ensures ∙ (cleared_same _ _ (omega (arith, whole.long, ap length whole.same)) ∙ s.scratch_left);
          register_left = s.register_left;
          state_left = s.state_left;
        },
      );
    }
