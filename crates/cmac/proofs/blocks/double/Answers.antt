use Rattle.cmac.proofs.Numbers.{doubled_number}
use Rattle.cmac.proofs.blocks.double.Goals as goal

pub returns : goal.returns
returns c = doubled_number c.from_be_bytes.result c.move_up.result c.args.block.now _ c.from_be_bytes.ensures c.move_up.ensures c.to_be_bytes.ensures
