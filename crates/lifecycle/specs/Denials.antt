-- What a call that was denied leaves of the board, and what is said of it.
use Rattle.std.specs.Prelude.{◌≡◌}
use Rattle.board.specs.declared.answers.Answer.{Answer}
use Rattle.board.specs.declared.answers.Answer.TheVariants as answer
use Rattle.board.specs.declared.results.Board.{Board}
use Rattle.board.specs.declared.results.Board.TheVariants as board
use Rattle.board.specs.declared.results.Denied.{Denied}
use Rattle.board.specs.declared.results.Denied.TheVariants as denied

-- Refused: the board as it was, as a board of any state. Cut: a cold one.
abbrev pub Denies : {B : Type 0} → (B → Board → Type 0) → Denied B → Board → Answer → Type 0
Denies converts (denied.Refused b refusal) left said = converts b left × (said ≡ answer.Refused refusal)
Denies converts (denied.Supply c s) left said = (left ≡ board.Cold c) × (said ≡ answer.Supply s)
