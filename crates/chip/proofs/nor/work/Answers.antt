use Rattle.chip.proofs.Flash.{worked_erased}
use Rattle.chip.proofs.nor.work.Goals as goal

pub returns-then-count-gt0 : goal.returns-then-count-gt0
returns-then-count-gt0 c =
    worked_erased c.args.erases c.args.count c.args.block.now c.args.bytes.now _ c.if-not-erases.false c.if-count-gt0.true c.program-then-count-gt0.ensures
