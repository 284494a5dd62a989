use Rattle.std.proofs.Common.{arith}
use Rattle.chip.proofs.Flash.{programmed-none, programmed-more}
use Rattle.chip.proofs.nor.program.Goals as goal

pub loop-i-init : goal.loop-i-init
loop-i-init c = programmed-none c.args.block.now c.args.bytes.now

pub loop-i-preserved : goal.loop-i-preserved
loop-i-preserved c =
    programmed-more c.loop-i.block c.args.block.now c.args.bytes.now c.args.count c.loop-i.i (omega arith) (omega arith) (omega arith) c.loop-i.invariant
