-- What a journal tells of a history.
use Rattle.std.specs.Prelude.{◌≡◌, ℕ, cond, List, [], ◌∷◌, ◌++◌, length, replicate, vec_items, ◌==◌}
use Rattle.authenticator.specs.Meaning.{Meaning}
use Rattle.board.specs.States as states
use Rattle.board.specs.declared.results.Board.{Board}
use Rattle.board.specs.declared.results.Board.TheVariants as board
use Rattle.law.specs.History as history
use Rattle.law.specs.History.{Event}
use Rattle.lifecycle.specs.declared.journal.Call.{Call}
use Rattle.lifecycle.specs.declared.journal.Call.TheVariants.{Start, Stage, Cycle, Offer, Leave, Install, Reset}
use Rattle.lifecycle.specs.declared.journal.Standing.{Standing}
use Rattle.lifecycle.specs.declared.journal.Standing.TheVariants as standing
use Rattle.lifecycle.specs.declared.journal.Entry.{Entry}

-- The state of a board that code holds.
abbrev pub board_of : Board → states.Board
board_of (board.Cold c) = states.cold
board_of (board.Running r) = states.running r
board_of (board.Matched b) = states.matched b

-- The state that the journal tells.
abbrev pub board_in : Standing → states.Board
board_in standing.Cold = states.cold
board_in (standing.Running p v) = states.running (record { place = p; version = v })
board_in (standing.Matched p v q w n vectors) =
    states.matched (record { running = record { place = p; version = v }; place = q; version = w; nonce = n; vectors = vectors })

-- A call of the journal, made with these buffers.
abbrev pub call_of : Call → List ℕ → List ℕ → history.Call
call_of Start scratch register = history.start scratch register
call_of (Stage block bytes) scratch register = history.stage block (vec_items bytes)
call_of (Cycle c byte dma_byte) scratch register = history.cycle c byte dma_byte scratch
call_of (Offer first token) scratch register = history.offer first (vec_items token) scratch
call_of Leave scratch register = history.leave
call_of Install scratch register = history.install scratch register
call_of Reset scratch register = history.reset

-- The register as the journal keeps it: zeros where it has not 32 bytes, or none was lent.
abbrev pub kept_of : List ℕ → List ℕ
kept_of register = cond (length register == 32) register (replicate 32 0)

-- An entry tells of an event: its call, with buffers of these lengths, its answer, its board, and its register.
pub record Tells {a : Meaning} (e : Event a) (n : Entry) : Type 0 where
  pub scratch : List ℕ
  pub register : List ℕ
  pub scratch_len : length scratch ≡ n.scratch
  pub register_len : length register ≡ n.register
  pub call : e.call ≡ call_of n.call scratch register
  pub answer : e.outcome.answer ≡ n.answer
  pub board : e.outcome.board ≡ board_in n.standing
  pub shown : kept_of e.register ≡ n.shown

-- A journal, the oldest entry first, tells of a history, the newest event first, entry by entry.
pub data Told {a : Meaning} : List (Event a) → List Entry → Type 0 where
  nothing : Told [] []
  more : {e : Event a} {h : List (Event a)} {n : Entry} {ns : List Entry} → Told h ns → Tells e n → Told (e ∷ h) (ns ++ (n ∷ []))
