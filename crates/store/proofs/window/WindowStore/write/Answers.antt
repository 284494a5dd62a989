use Rattle.store.proofs.Windows.{window_writing}
use Rattle.store.proofs.window.WindowStore.write.Goals as goal

pub returns-clause-written : goal.returns-clause-written
returns-clause-written g c =
    let s = c.args.self.now in
    let m = g.S.Store.medium s.lower in
    let e = g.S.Store.medium c.write.new.self in
    let place = c.in_ok-place in
    rw c.lift.ensures (window_writing m s.begin s.size e c.args.block place.place c.args.bytes.now c.write.result place.ensures c.write.ensures)
