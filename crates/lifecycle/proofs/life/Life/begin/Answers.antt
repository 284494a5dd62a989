use Rattle.std.proofs.Common.{refl}
use Rattle.lifecycle.proofs.Grown.{opens}
use Rattle.lifecycle.proofs.life.Life.begin.Goals as goal

pub returns-in-Ok : goal.returns-in-Ok
returns-in-Ok g c =
    let l = c.in-Ok.ensures in
    let o = opens g.K.Authenticator.means _ _ _ _ _ _ _ _ _ _ c.new.ensures.items c.deref.ensures.value c.count.ensures.whole l.1 in
    (o.0, refl, refl, c.new.ensures.items, o.1)
