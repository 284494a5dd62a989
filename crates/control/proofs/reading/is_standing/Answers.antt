use Rattle.std.proofs.Common.{◌≡◌, Decides, false, take, subst}
use Rattle.control.specs.Blocks.{formed}
use Rattle.control.proofs.Formed.{decides_filled, decides_unfilled}
use Rattle.control.proofs.reading.is_standing.Goals as goal

pub returns-then-is_filled : goal.returns-then-is_filled
returns-then-is_filled c =
    subst (λ n. Decides c.is_checked.result (c.args.block.now ≡ formed (take n c.args.block.now))) c.size_of.ensures.size
    (decides_filled c.size_of.result c.args.block.now _ _ c.size_of.ensures.bound c.told-block c.is_filled.ensures c.if-is_filled.true c.is_checked.ensures)

pub returns-else-is_filled : goal.returns-else-is_filled
returns-else-is_filled c =
    rw (c.if-is_filled.false)
    (subst (λ n. Decides false (c.args.block.now ≡ formed (take n c.args.block.now))) c.size_of.ensures.size
    (decides_unfilled c.size_of.result c.args.block.now _ c.size_of.ensures.bound c.told-block c.is_filled.ensures c.if-is_filled.false))
