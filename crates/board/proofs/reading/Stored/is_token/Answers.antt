use Rattle.std.proofs.Common.{sym, ap, ◌∙◌}
use Rattle.board.proofs.Fed.{fed_token}
use Rattle.board.proofs.reading.Stored.is_token.Goals as goal

pub returns : goal.returns
returns g c =
    let A = g.K.Authenticator in
    let k = A.key c.args.authenticator.now in
    let done = c.in-Ok.ensures in
    let same = c.feed-2.ensures.key ∙ c.feed.ensures.key ∙ c.open.ensures.key in
    let front = fed_token A.means k _ _ _ _ _ _ _ c.close.new.out c.tag_len.result
    c.open.ensures.key c.feed.ensures.key c.feed-2.ensures.key
    c.open.ensures.state (rw c.byte.ensures at c.feed.ensures.state) c.feed-2.ensures.state done.out c.tag_len.ensures.value in
    record {
      key = done.key ∙ same;
      state = done.closed ∙ ap A.means.begin same;
      answer = (λ yes. sym (c.same.ensures.yes yes) ∙ front, λ e. c.same.ensures.no (front ∙ sym e));
    }
