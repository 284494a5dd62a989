use Rattle.std.proofs.Common.{◌≡◌, ◌*◌, min}
use Rattle.board.specs.Stored.{image_at}
use Rattle.board.proofs.reading.Stored.feed.Given as goal

abbrev pub invariant-loop-i : goal.invariant-loop-i
invariant-loop-i g l =
    let A = g.K.Authenticator in
    let k = A.key l.initial.authenticator in
    (A.key l.authenticator ≡ k)
    × (A.state l.authenticator
    ≡ A.means.feeds k (A.state l.initial.authenticator) (image_at (g.S.Store.medium l.self.reader.store.now).blocks l.self.place.first (min (512 * l.i) l.self.place.len)))
