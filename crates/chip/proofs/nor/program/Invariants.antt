use Rattle.std.proofs.Common.{◌≡◌}
use Rattle.chip.specs.Chip.{programmed}
use Rattle.chip.proofs.nor.program.Given as goal

abbrev pub invariant-loop-i : goal.invariant-loop-i
invariant-loop-i l = l.block ≡ programmed l.i l.initial.block l.bytes
