use Rattle.std.proofs.Common.{rules}
use Rattle.board.specs.Answers.{cleared}
use Rattle.board.proofs.buffers.clear.Goals as goal

pub returns : goal.returns
unfolding cleared
returns c = search rules
