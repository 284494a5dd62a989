use Rattle.std.proofs.Common.{rules}
use Rattle.sha256.proofs.Bitwise.{ch_short}
use Rattle.sha256.proofs.functions.choose.Goals as goal

pub returns : goal.returns
returns c = ch_short c.args.x c.args.y c.args.z (search rules) (search rules) (search rules)
