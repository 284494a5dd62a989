use Rattle.std.proofs.Common.{rules}
use Rattle.control.proofs.Held.{reads_finished, reads_unfinished}
use Rattle.control.proofs.reading.read_flag.Goals as goal

pub returns-then-is_finished : goal.returns-then-is_finished
returns-then-is_finished c = search (rules, reads_finished)

pub returns-else-is_finished : goal.returns-else-is_finished
returns-else-is_finished c = search (rules, reads_unfinished)
