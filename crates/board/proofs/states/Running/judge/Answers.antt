use Rattle.std.proofs.Common.{arith}
use Rattle.std.proofs.lemmas.Bool.{both_ways}
use Rattle.board.proofs.Poking.{judged_reset, judged_done, judged_cut}
use Rattle.board.proofs.states.Running.judge.Goals as goal

pub returns-then-is_reset : goal.returns-then-is_reset
returns-then-is_reset g c =
    judged_reset c.args.self (g.S.Store.medium c.args.store.now) c.args.cycle c.args.byte c.args.dma_byte c.args.scratch.now
    (omega arith) (λ h. both_ways _ c.if-in_tcr.false (c.in_tcr.ensures.1 h)) (c.is_reset.ensures.0 c.if-is_reset.true)

pub returns-in-Ok : goal.returns-in-Ok
returns-in-Ok g c =
    judged_done c.args.self (g.S.Store.medium c.args.store.now) c.args.cycle c.args.byte c.args.dma_byte c.args.scratch.now
    (omega arith) (λ h. both_ways _ c.if-in_tcr.false (c.in_tcr.ensures.1 h)) (λ h. both_ways _ c.if-is_reset.false (c.is_reset.ensures.1 h))
    (g.S.Store.medium c.poke_all.new.store) c.in-Ok.ensures

pub returns-in-Err : goal.returns-in-Err
returns-in-Err g c =
    judged_cut c.args.self (g.S.Store.medium c.args.store.now) c.args.cycle c.args.byte c.args.dma_byte c.args.scratch.now
    (omega arith) (λ h. both_ways _ c.if-in_tcr.false (c.in_tcr.ensures.1 h)) (λ h. both_ways _ c.if-is_reset.false (c.is_reset.ensures.1 h))
    (g.S.Store.medium c.poke_all.new.store) c.in-Err.supply c.in-Err.ensures
