use Rattle.std.proofs.Common.{refl}
use Rattle.std.proofs.lemmas.Result.{err_from_is_err_and}
use Rattle.std.proofs.lemmas.Bool.{both_ways}
use Rattle.board.proofs.Offering.{barred, untried, accepted, rejected}
use Rattle.board.proofs.states.Running.weigh.Goals as goal

pub returns-in_err-place : goal.returns-in_err-place
returns-in_err-place g c =
    let A = g.K.Authenticator in
    let k = A.key c.args.authenticator.now in
    let m = g.S.Store.medium c.args.reader.store.now in
    let p = err_from_is_err_and c.from_residual.result c.from_residual.ensures.1 in
    let f = c.in_err-place.ensures in
    rw (p.1, p.2)
    record {
      key = refl;
      state = untried A.means k c.args.self.now m c.args.first c.args.token.now c.args.reader.readable.1 c.requires.0
          c.args.header _ c.requires.1 c.count.ensures (A.means.begin k) _ _ f;
      answer = barred A.means k c.args.self.now m c.args.first c.args.token.now c.args.reader.readable.1 c.requires.0
          c.args.header _ c.requires.1 c.count.ensures _ f;
    }

pub returns-then-is_token : goal.returns-then-is_token
returns-then-is_token g c =
    let A = g.K.Authenticator in
    let done = c.is_token.ensures in
    record {
      key = done.key;
      state = done.state;
      answer = (
        accepted A.means _ c.args.self.now (g.S.Store.medium c.args.reader.store.now) c.args.first c.args.token.now
            c.args.reader.readable.1 c.requires.0 c.args.header _ c.requires.1 c.count.ensures
            c.in_ok-place.place c.in_ok-place.ensures (done.answer.0 c.if-is_token.true),
        refl,
      );
    }

pub returns-else-is_token : goal.returns-else-is_token
returns-else-is_token g c =
    let A = g.K.Authenticator in
    let done = c.is_token.ensures in
    record {
      key = done.key;
      state = done.state;
      answer = rejected A.means _ c.args.self.now (g.S.Store.medium c.args.reader.store.now) c.args.first c.args.token.now
          c.args.reader.readable.1 c.requires.0 c.args.header _ c.requires.1 c.count.ensures
          c.in_ok-place.place c.in_ok-place.ensures (λ e. both_ways c.is_token.result c.if-is_token.false (done.answer.1 e));
    }
