use Rattle.std.proofs.Common.{[], ap, inr}
use Rattle.board.specs.declared.answers.Answer.TheVariants.{Runs}
use Rattle.board.specs.declared.answers.Launch.{Launch}
use Rattle.board.specs.States.{running}
use Rattle.board.specs.Results.{outcome}
use Rattle.board.proofs.states.Cold.run.Goals as goal

pub returns : goal.returns
returns g c =
    let m = g.S.Store.medium c.args.reader.store.now in
    inr (inr (
      c.vectors_stand.ensures.0 c.if-not-vectors_stand.false,
      (
        c.in-Some.running,
        c.in-Some.ensures,
        ap (λ (l : Launch). outcome [] (Runs l) (running c.in-Some.running) m) c.into-launch.ensures,
      ),
    ))
