use Rattle.std.proofs.Common.{ap, ◌∙◌}
use Rattle.chip.specs.Chip.{worked}
use Rattle.chip.proofs.Flash.{worked_whole}
use Rattle.chip.proofs.nor.NorMake.write.Goals as goal

pub returns : goal.returns
returns c =
    let old = c.args.block.now in
    let new = c.args.bytes.now in
    let left = c.work.ensures ∙ ap (λ k. worked c.must_erase-erases.result k old new) c.operations.ensures in
    left ∙ worked_whole c.must_erase-erases.result old new c.told-block c.told-bytes c.fits-bytes c.must_erase-erases.ensures
