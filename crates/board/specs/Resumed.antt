-- What is left where an install is ended.
use Rattle.std.specs.Prelude.{◌≡◌, ℕ, List}
use Rattle.authenticator.specs.Meaning.{Meaning}
use Rattle.control.specs.declared.kind.Flag.TheVariants.{Unfinished}
use Rattle.store.specs.Medium.{Medium}
use Rattle.board.specs.Answers.{shown, settled}
use Rattle.board.specs.Calls.{Resumes, confirmation_by}
use Rattle.board.specs.Tests.{Outcome}

-- An install was ended in a store that was woken: with this register and this state of the authenticator.
pub record Resumed (a : Meaning) (key : a.Key) (m : Medium) (register : List ℕ) (state : a.State)
    (o : Outcome) (register' : List ℕ) (state' : a.State) : Type 0 where
  pub outcome : Resumes Unfinished m o
  pub register_left : register' ≡ shown (confirmation_by a key m o.board) o.answer register
  pub state_left : state' ≡ settled (a.begin key) o.answer state
