use Rattle.std.proofs.Common.{vec_items, ap, ◌∙◌}
use Rattle.lifecycle.proofs.Grown.{cleared_again}
use Rattle.lifecycle.proofs.driver.live.Goals as goal

pub returns : goal.returns
returns g c =
    let b = c.in_ok-life.ensures in
    let t = c.run-ended.ensures in (
      t.life.lawful b.0,
      t.life.same_key ∙ ap g.K.Authenticator.key b.1,
      ap vec_items t.life.same_factory ∙ b.2,
      t.scratch ∙ cleared_again _ _ c.begin.auto.scratch,
      t.register,
    )
