use Rattle.std.proofs.Common.{◌/◌, ◌%◌, arith}
use Rattle.planner.proofs.Tags.{listed}
use Rattle.planner.proofs.confirmations.message.Goals as goal

pub returns : goal.returns
returns c = listed c.to_le_bytes.result c.args.nonce (c.args.version % 256) (c.args.version / 256 % 256) c.to_le_bytes.ensures (omega arith)
