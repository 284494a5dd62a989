use Rattle.std.proofs.Common.{refl}
use Rattle.board.specs.States.{bytes_of}
use Rattle.board.proofs.Resuming.{finished, unfinished}
use Rattle.board.proofs.states.Running.finish.Goals as goal

pub returns-in-Ok : goal.returns-in-Ok
returns-in-Ok g c =
    let A = g.K.Authenticator in
    let m = g.S.Store.medium c.args.store.now in
    let e = g.S.Store.medium c.close.new.store in
    record {
      key = c.confirm.ensures.key;
      call = finished A.means (A.key c.args.authenticator.now) m e c.args.register.now _ (A.state c.args.authenticator.now) _
          c.args.self c.requires.1.1 c.into.result (bytes_of c.vectors-vectors.result) c.nonce-nonce.result
          c.into.ensures c.vectors-vectors.ensures c.nonce-nonce.ensures c.in-Ok.ensures c.confirm.ensures.register c.confirm.ensures.state;
    }

pub returns-in-Err : goal.returns-in-Err
returns-in-Err g c =
    let A = g.K.Authenticator in
    let m = g.S.Store.medium c.args.store.now in
    let e = g.S.Store.medium c.close.new.store in
    record {
      key = refl;
      call = unfinished A.means (A.key c.args.authenticator.now) m e c.args.register.now _ (A.state c.args.authenticator.now) _
          c.args.self c.requires.1.1 c.end.result c.in-Err.supply (bytes_of c.vectors-vectors.result)
          c.vectors-vectors.ensures c.in-Err.ensures c.requires.0 refl;
    }
