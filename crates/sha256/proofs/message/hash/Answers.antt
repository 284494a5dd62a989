use Rattle.std.proofs.Common.{rules}
use Rattle.sha256.specs.Hash.{sha256}
use Rattle.sha256.proofs.message.hash.Goals as goal

pub returns : goal.returns
unfolding sha256
returns c = search rules
