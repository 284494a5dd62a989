use Rattle.std.proofs.Common.{◌∙◌}
use Rattle.board.specs.Answers.{cleared}
use Rattle.lifecycle.proofs.Grown.{cleared_again}
use Rattle.lifecycle.proofs.life.Life.run.Goals as goal

pub returns : goal.returns
unfolding cleared
returns g c =
    let t = c.turns-ended in
    record {
      life = t.ensures;
      scratch = c.fill.ensures.after (λ y e. e) ∙ cleared_again _ _ t.auto.scratch;
      register = c.fill-2.ensures.after (λ y e. e) ∙ cleared_again _ _ t.auto.register;
    }
