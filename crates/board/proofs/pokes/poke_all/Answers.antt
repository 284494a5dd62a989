use Rattle.std.proofs.Common.{[], Ok, Err}
use Rattle.std.proofs.lemmas.Result.{err_from_is_err_and}
use Rattle.board.specs.Calls.{poke_if}
use Rattle.board.proofs.Poking.{at_most_two, both, first_cut}
use Rattle.board.proofs.pokes.poke_all.Goals as goal

pub returns-in_err-next : goal.returns-in_err-next
returns-in_err-next g c =
    let p = err_from_is_err_and c.from_residual.result c.from_residual.ensures.1 in
    let cycle = c.args.cycle in
    rw (p.1, p.2)
    (first_cut (g.S.Store.medium c.args.store.now) cycle.write_at c.args.byte (poke_if cycle.dma_at c.args.dma_byte [])
    c.in_err-next.field-0.0 (g.S.Store.medium c.poke.new.store) c.in_err-next.ensures)

pub poke-requires-2 : goal.poke-requires-2
poke-requires-2 g c =
    let cycle = c.args.cycle in
    at_most_two (g.S.Store.medium c.args.store.now) cycle.write_at c.args.byte _ c.in_ok-next.ensures.0

pub returns-in_err-poke : goal.returns-in_err-poke
returns-in_err-poke g c =
    let p = err_from_is_err_and c.from_residual-in_err-poke.result c.from_residual-in_err-poke.ensures.1 in
    let cycle = c.args.cycle in
    rw (p.1, p.2)
    (both (g.S.Store.medium c.args.store.now) cycle.write_at c.args.byte (poke_if cycle.dma_at c.args.dma_byte [])
    (g.S.Store.medium c.poke.new.store) c.in_ok-next.next (Err c.in_err-poke.field-0.0) (g.S.Store.medium c.poke-2.new.store)
    c.in_ok-next.ensures c.in_err-poke.ensures)

pub returns : goal.returns
returns g c =
    let cycle = c.args.cycle in
    both (g.S.Store.medium c.args.store.now) cycle.write_at c.args.byte (poke_if cycle.dma_at c.args.dma_byte [])
    (g.S.Store.medium c.poke.new.store) c.in_ok-next.next (Ok tt) (g.S.Store.medium c.poke-2.new.store)
    c.in_ok-next.ensures c.in_ok-poke.ensures.1
