use Rattle.std.proofs.Common.{refl, rules}
use Rattle.sha256.specs.Compression.{rounds, compressed}
use Rattle.sha256.proofs.compression.compress.Goals as goal

pub loop-i-init : goal.loop-i-init
unfolding rounds
loop-i-init c = refl

pub returns : goal.returns
unfolding compressed
returns c = search rules
