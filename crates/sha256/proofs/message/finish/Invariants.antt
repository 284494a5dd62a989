use Rattle.std.proofs.Common.{◌≡◌, length}
use Rattle.sha256.specs.Hash.{finished}
use Rattle.sha256.proofs.message.finish.Given as goal

-- the hash is that of what is left
abbrev pub invariant-loop-block : goal.invariant-loop-block
invariant-loop-block l = finished l.h l.left l.bits ≡ finished l.initial.h l.initial.left l.bits

abbrev pub decreases-loop-block : goal.decreases-loop-block
decreases-loop-block l = length l.left
