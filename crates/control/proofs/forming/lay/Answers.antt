use Rattle.std.proofs.Common.{arith}
use Rattle.std.proofs.lemmas.List.{length-append, length-drop}
use Rattle.control.proofs.Formed.{laid}
use Rattle.control.proofs.forming.lay.Goals as goal

pub returns : goal.returns
returns c =
    laid c.args.held.now c.copy_from_slice.new.self _ c.fill.new.self
    c.copy_from_slice.ensures.after (omega arith) (simp (length-append, length-drop) (omega arith)) (c.fill.ensures.after (λ y e. e))
