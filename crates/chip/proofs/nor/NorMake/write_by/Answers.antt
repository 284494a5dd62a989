use Rattle.std.proofs.Common.{◌∙◌, ap}
use Rattle.chip.specs.Chip.{worked}
use Rattle.chip.proofs.Flash.{ends}
use Rattle.chip.proofs.nor.NorMake.write_by.Goals as goal

pub returns : goal.returns
returns c =
    let old = c.args.block.now in
    let new = c.args.bytes.now in
    let left = c.work.ensures ∙ ap (λ k. worked c.must_erase-erases.result k old new) c.min.ensures in
    ends c.args.plan c.operations-needed.result c.must_erase-erases.result old new c.work.new.block c.checked_sub.result c.must_erase-erases.ensures
    c.operations-needed.ensures c.told-block c.told-bytes c.fits-bytes c.checked_sub.ensures left
