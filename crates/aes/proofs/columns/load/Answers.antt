use Rattle.std.proofs.Common.{rules}
use Rattle.aes.proofs.Steps.{loaded}
use Rattle.aes.proofs.columns.load.Goals as goal

pub returns-clause-columns : goal.returns-clause-columns
returns-clause-columns c =
    loaded _ _ _ _ c.args.block.now (search rules) c.column.ensures.bytes c.column-2.ensures.bytes c.column-3.ensures.bytes c.column-4.ensures.bytes
