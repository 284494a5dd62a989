use Rattle.std.proofs.Common.{rules}
use Rattle.sha256.specs.Compression.{rounded}
use Rattle.sha256.proofs.compression.round.Goals as goal

pub returns : goal.returns
unfolding rounded
returns c = search rules
