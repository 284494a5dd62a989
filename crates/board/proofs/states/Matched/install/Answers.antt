use Rattle.std.proofs.Common.{refl, length, ap, ◌∙◌, arith}
use Rattle.board.proofs.Cleared.{cleared_same}
use Rattle.board.proofs.Installing.{install_done, install_cut}
use Rattle.board.proofs.states.Matched.install.Goals as goal

pub returns-in-Ok : goal.returns-in-Ok
returns-in-Ok g c =
    let A = g.K.Authenticator in
    let k = A.key c.args.authenticator.now in
    let m = g.S.Store.medium c.args.store.now in
    let e = g.S.Store.medium c.write_install-written.new.store in
    let whole = c.in-Some.ensures.cases in
    let full = c.in-Some-as_mut_array.ensures.cases in
    let done = c.succeed.ensures in
    record {
      key = done.key;
      call = install_done A.means k c.args.self m e c.args.scratch.now c.args.register.now _ _ (A.state c.args.authenticator.now) _
          whole.long full.long (c.clear-2.ensures ∙ cleared_same _ _ (omega (arith, whole.long))) c.succeed.result
          done.installed c.in-Ok.ensures done.register done.state;
    }

pub returns-in-Err : goal.returns-in-Err
returns-in-Err g c =
    let A = g.K.Authenticator in
    let k = A.key c.args.authenticator.now in
    let m = g.S.Store.medium c.args.store.now in
    let e = g.S.Store.medium c.write_install-written.new.store in
    let whole = c.in-Some.ensures.cases in
    let full = c.in-Some-as_mut_array.ensures.cases in
    record {
      key = refl;
      call = install_cut A.means k c.args.self m e c.args.scratch.now c.args.register.now _ _ (A.state c.args.authenticator.now) _
          whole.long full.long (c.clear-2.ensures ∙ cleared_same _ _ (omega (arith, whole.long))) c.end.result
          c.in-Err.supply c.in-Err.ensures (c.clear.ensures ∙ cleared_same _ _ (ap length full.same)) refl;
    }
