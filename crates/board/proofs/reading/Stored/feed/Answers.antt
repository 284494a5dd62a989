use Rattle.std.proofs.Common.{refl, ◌∙◌, arith}
use Rattle.board.proofs.Fed.{fed_none, fed_more, fed_all}
use Rattle.board.proofs.reading.Stored.feed.Goals as goal

pub loop-i-init : goal.loop-i-init
loop-i-init g c =
    let place = c.args.self.now.place in
    (refl, fed_none g.K.Authenticator.means _ _ _ place.first place.len)

pub loop-i-preserved : goal.loop-i-preserved
loop-i-preserved g c =
    let A = g.K.Authenticator in
    let image = c.args.self.now in (
      c.feed.ensures.key ∙ c.loop-i.invariant.0,
      fed_more A.means _ _ _ image.place.first image.place.len c.loop-i.i c.min-end.result _ _ _ c.fetch.new.scratch
          image.reader.readable.1 (omega arith) (omega arith) c.loop-i.invariant.0 c.loop-i.invariant.1 c.fetch.ensures (omega arith) c.feed.ensures.state,
    )

pub returns : goal.returns
returns g c =
    let A = g.K.Authenticator in
    let place = c.args.self.now.place in
    record {
      key = c.loop-i.invariant.0;
      state = fed_all A.means _ _ _ place.first place.len c.loop-i.i _ (omega arith) c.loop-i.invariant.1;
    }
