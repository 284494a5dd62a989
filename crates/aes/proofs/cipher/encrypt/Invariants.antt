use Rattle.std.proofs.Common.{◌≡◌, ◌-◌}
use Rattle.aes.specs.Words.{columns}
use Rattle.aes.specs.Cipher.{rounds}
use Rattle.aes.proofs.cipher.encrypt.Given as goal

abbrev pub invariant-loop-n : goal.invariant-loop-n
invariant-loop-n l = columns l.s ≡ rounds (l.n - 1) l.keys (columns l.initial.s)
