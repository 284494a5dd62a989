use Rattle.std.proofs.Common.{[], refl, ◌∙◌, arith}
use Rattle.board.specs.Results.{started}
use Rattle.board.proofs.Cleared.{cleared_same}
use Rattle.board.proofs.Resuming.{awake, finished_start, unfinished_start}
use Rattle.board.proofs.states.Cold.resume.Goals as goal

pub finish-requires : goal.finish-requires
finish-requires g c =
    let m = g.S.Store.medium c.args.store.now in
    let up = awake m _ c.wake.ensures c.count.ensures.whole (omega arith, omega arith) in
    (c.clear.ensures ∙ cleared_same _ _ (omega arith), (up.0, omega (arith, up.1)))

pub returns-in-Finished : goal.returns-in-Finished
returns-in-Finished g c =
    let A = g.K.Authenticator in
    let m = g.S.Store.medium c.args.store.now in
    let d = g.S.Store.medium c.wake.new.self in
    record {
      key = refl;
      call = (
        [],
        finished_start A.means (A.key c.args.authenticator.now) m d c.args.scratch.now c.args.register.now (A.state c.args.authenticator.now)
            (omega arith) (omega arith) (omega arith, omega arith) c.wake.ensures (started [] c.run.result d) _ _ c.in-Finished.ensures c.run.ensures c.clear.ensures refl,
      );
    }

pub returns-in-Unfinished : goal.returns-in-Unfinished
returns-in-Unfinished g c =
    let A = g.K.Authenticator in
    let m = g.S.Store.medium c.args.store.now in
    let d = g.S.Store.medium c.wake.new.self in
    let e = g.S.Store.medium c.finish.new.store in
    let done = c.finish.ensures.call in
    record {
      key = c.finish.ensures.key;
      call = (
        done.0,
        unfinished_start A.means (A.key c.args.authenticator.now) m d c.args.scratch.now c.args.register.now (A.state c.args.authenticator.now)
            (omega arith) (omega arith) (omega arith, omega arith) c.wake.ensures (started done.0 c.finish.result e) c.clear.new.buffer _ _ (omega arith) c.in-Unfinished.ensures done.1,
      );
    }
