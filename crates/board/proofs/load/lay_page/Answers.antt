use Rattle.std.proofs.Common.{arith}
use Rattle.board.proofs.Loaded.{laid_page}
use Rattle.board.proofs.load.lay_page.Goals as goal

pub returns : goal.returns
returns c = laid_page c.args.page.now _ c.args.scratch.now _ c.requires c.copy_from_slice.ensures.after (omega arith) c.clear.ensures
