use Rattle.std.proofs.Common.{rules}
use Rattle.sha256.proofs.Ends.{counted_written}
use Rattle.sha256.proofs.padding.counted.Goals as goal

pub returns : goal.returns
returns c = counted_written c.args.block _ c.args.bits (search rules) (search rules)
