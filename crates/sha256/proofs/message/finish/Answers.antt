use Rattle.std.proofs.Common.{◌≤◌, length, arith}
use Rattle.sha256.proofs.Blocks.{finished_front}
use Rattle.sha256.proofs.message.finish.Goals as goal

pub loop-block-preserved : goal.loop-block-preserved
loop-block-preserved c =
    let cut = c.in-Some.ensures.cases in
    let enough : 64 ≤ length c.loop-block.left.now = omega (arith, cut) in
    let front = finished_front c.loop-block.h c.loop-block.left.now c.args.bits enough in
    cc
