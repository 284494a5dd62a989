use Rattle.std.proofs.Common.{◌≡◌, ◌+◌, length, take}
use Rattle.aes.specs.Cipher.{schedule}
use Rattle.aes.proofs.schedule.expand.Given as goal

abbrev pub invariant-loop-n : goal.invariant-loop-n
invariant-loop-n l = (length l.w ≡ 44) × (take (4 + l.n) l.w ≡ schedule l.n l.key)
