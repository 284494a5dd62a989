use Rattle.std.proofs.Common.{rules}
use Rattle.store.specs.Memory.{filled}
use Rattle.store.proofs.plain.PlainMake.write_by.Goals as goal

pub returns-in-Repeated : goal.returns-in-Repeated
unfolding filled
returns-in-Repeated c = search rules
