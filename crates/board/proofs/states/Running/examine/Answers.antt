use Rattle.std.proofs.Common.{◌∙◌, arith}
use Rattle.board.proofs.Offering.{offer_matches, offer_fails}
use Rattle.board.proofs.states.Running.examine.Goals as goal

pub returns-in-Ok : goal.returns-in-Ok
returns-in-Ok g c =
    let A = g.K.Authenticator in
    let k = A.key c.args.authenticator.now in
    let m = g.S.Store.medium c.args.store.now in
    let done = c.in-Ok.ensures in
    let takes = rw done.answer.1 at c.take.ensures in
    record {
      key = done.key;
      call = offer_matches A.means k c.args.self m c.args.first _ c.args.token.now c.args.scratch.now (A.state c.args.authenticator.now) _
          (omega arith) c.count.ensures.number (c.is_open.ensures.0 c.if-not-is_open.false) (c.if-token-tag_len.false ∙ c.tag_len.ensures.value)
          c.in_default.ensures.0 c.in-Ok.image.place _ c.take.result done.answer.0 takes done.state;
    }

pub returns-in-Err-weigh : goal.returns-in-Err-weigh
returns-in-Err-weigh g c =
    let A = g.K.Authenticator in
    let k = A.key c.args.authenticator.now in
    let m = g.S.Store.medium c.args.store.now in
    let done = c.in-Err-weigh.ensures in
    record {
      key = done.key;
      call = offer_fails A.means k c.args.self m c.args.first _ c.args.token.now c.args.scratch.now (A.state c.args.authenticator.now) _
          (omega arith) c.count.ensures.number (c.is_open.ensures.0 c.if-not-is_open.false) (c.if-token-tag_len.false ∙ c.tag_len.ensures.value)
          c.in_default.ensures.0 c.in-Err-weigh.refusal done.answer done.state;
    }
