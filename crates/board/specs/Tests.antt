-- How a call goes: its tests in their order, then its work.
use Rattle.std.specs.Prelude.{◌≡◌, ℕ, true, false, ◌⊎◌, List, [], Ok, Err, Result}
use Rattle.refusal.specs.declared.Refusal.{Refusal}
use Rattle.store.specs.Medium.{Medium, dark}
use Rattle.board.specs.declared.answers.Answer.{Answer}
use Rattle.board.specs.declared.answers.Answer.TheVariants as answer
use Rattle.board.specs.declared.answers.Supply.{Supply}
use Rattle.board.specs.States.{Board, cold}
use Rattle.board.specs.Writes.{Put, Write, Makes}

-- What came of a call: the writes that it made, its answer, and the board and the store that it left.
pub record Outcome : Type 0 where
  pub writes : List Write
  pub answer : Answer
  pub board : Board
  pub store : Medium

-- A call that wrote nothing.
abbrev pub quiet : Answer → Board → Medium → Outcome
quiet said board m = record { writes = []; answer = said; board = board; store = m }

-- Tests, each with the refusal where it fails.
pub data Tests : Type 1 where
  pass : Tests
  test : Type 0 → Refusal → Tests → Tests

-- The first test that fails decides, and a refusal leaves board and store as they are; where none fails, the work is done.
abbrev pub Tested : Tests → Board → Medium → (Outcome → Type 0) → Outcome → Type 0
Tested pass board m Work o = Work o
Tested (test P refusal tests) board m Work o =
    ((P → ⊥) × (o ≡ quiet (answer.Refused refusal) board m)) ⊎ (P × Tested tests board m Work o)

-- A block is read ahead of the work: a dark store ends the call there, at no write, and the board is cold.
abbrev pub Read : Medium → ℕ → (Outcome → Type 0) → Outcome → Type 0
Read m b Work o =
    ((m.live ≡ false) × (o ≡ quiet (answer.Supply (record { write = 0; fault = dark m b })) cold m))
    ⊎ ((m.live ≡ true) × Work o)

-- The planned writes are made: with this answer and board where all are done. Else the board is cold, and the answer
-- tells which write was not.
abbrev pub Ended : Result Unit Supply → Answer → Board → Outcome → Type 0
Ended (Ok _) said board o = (o.answer ≡ said) × (o.board ≡ board)
Ended (Err s) said board o = (o.answer ≡ answer.Supply s) × (o.board ≡ cold)

abbrev pub Written : Medium → List Put → Answer → Board → Outcome → Type 0
Written m plan said board o =
    (r : Result Unit Supply) × Makes 1 m plan o.writes r o.store × Ended r said board o
