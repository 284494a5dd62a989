use Rattle.std.proofs.Common.{sym}
use Rattle.store.proofs.Blocks.{length-blocks, whole-blocks}
use Rattle.store.proofs.memory.count_in.Goals as goal

pub returns : goal.returns
returns c = record { number = sym (length-blocks c.args.memory.now); whole = whole-blocks c.args.memory.now }
