use Rattle.std.proofs.Common.{arith}
use Rattle.board.proofs.Loaded.{load_done, load_cut}
use Rattle.board.proofs.states.Cold.fill.Goals as goal

pub returns-in-Ok-write_load : goal.returns-in-Ok-write_load
returns-in-Ok-write_load g c =
    let f = c.in-Ok.ensures.1 in
    let n = c.count.ensures.number in
    let row = rw c.in-Ok.ensures.0 at c.in-Ok-write_load.ensures in
    load_done (g.S.Store.medium c.args.store.now) (g.S.Store.medium c.wake.new.self) (g.S.Store.medium c.write_load.new.store)
    c.args.image.now c.args.scratch.now (omega arith) (omega (arith, n, f.0.0), omega (arith, n, f.0.1))
    (f.1.0, λ past. f.1.1 (omega (arith, n, past))) c.wake.ensures c.args.self row

pub returns-in-Err-write_load : goal.returns-in-Err-write_load
returns-in-Err-write_load g c =
    let f = c.in-Ok.ensures.1 in
    let n = c.count.ensures.number in
    let row = rw c.in-Ok.ensures.0 at c.in-Err-write_load.ensures in
    load_cut (g.S.Store.medium c.args.store.now) (g.S.Store.medium c.wake.new.self) (g.S.Store.medium c.write_load.new.store)
    c.args.image.now c.args.scratch.now (omega arith) (omega (arith, n, f.0.0), omega (arith, n, f.0.1))
    (f.1.0, λ past. f.1.1 (omega (arith, n, past))) c.wake.ensures c.args.self c.in-Err-write_load.supply row
