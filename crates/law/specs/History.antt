-- Histories of a board: calls, each on what those ahead of it left.
use Rattle.std.specs.Prelude.{◌≡◌, ℕ, List, [], ◌∷◌}
use Rattle.authenticator.specs.Meaning.{Meaning}
use Rattle.watch.specs.declared.cycle.Cycle.{Cycle}
use Rattle.store.specs.Medium.{Medium, Whole}
use Rattle.board.specs.declared.states.Running.{Running}
use Rattle.board.specs.declared.states.Matched.{Matched}
use Rattle.board.specs.States.{Board, cold, running, matched}
use Rattle.board.specs.declared.answers.Answer.TheVariants.{Done}
use Rattle.board.specs.Tests.{Outcome, quiet}
use Rattle.board.specs.Calls.{Loads, Starts, Stages, Cycles, Offers, Installs}

-- A call, with what it brings and the buffers that it is lent, of any length.
pub data Call : Type 0 where
  -- scratch, register
  start : List ℕ → List ℕ → Call
  -- block, bytes
  stage : ℕ → List ℕ → Call
  -- signals, the core's byte, the byte of DMA, scratch
  cycle : Cycle → ℕ → ℕ → List ℕ → Call
  -- first block, token, scratch
  offer : ℕ → List ℕ → List ℕ → Call
  leave : Call
  -- scratch, register
  install : List ℕ → List ℕ → Call
  reset : Call

-- What there is between two calls: the board, the store, and the authenticator's state.
pub record World (a : Meaning) : Type 0 where
  pub board : Board
  pub store : Medium
  pub state : a.State

-- A call that was made, what came of it, and the lent buffers and the authenticator as it left them.
pub record Event (a : Meaning) : Type 0 where
  pub call : Call
  pub outcome : Outcome
  pub scratch : List ℕ
  pub register : List ℕ
  pub state : a.State

-- What an event leaves.
abbrev pub leaves : {a : Meaning} → Event a → World a
leaves e = record { board = e.outcome.board; store = e.outcome.store; state = e.state }

-- No scratch buffer was lent, or no register; the authenticator was not, and is as it was.
abbrev pub NoScratch : {a : Meaning} → Event a → Type 0
NoScratch e = e.scratch ≡ []

abbrev pub NoRegister : {a : Meaning} → Event a → Type 0
NoRegister e = e.register ≡ []

abbrev pub NoTag : {a : Meaning} → World a → Event a → Type 0
NoTag w e = e.state ≡ w.state

-- A call was made on w, which has the state that the call needs, and the event is what the call's meaning allows.
abbrev pub Made : (a : Meaning) → a.Key → World a → Call → Event a → Type 0
Made a key w (start scratch register) e =
    (w.board ≡ cold)
    × Starts a key w.store scratch register w.state e.outcome e.scratch e.register e.state
Made a key w (stage block bytes) e =
    ((r : Running) × (w.board ≡ running r) × Stages r w.store block bytes e.outcome)
    × NoScratch e × NoRegister e × NoTag w e
Made a key w (cycle c byte dma_byte scratch) e =
    ((r : Running) × (w.board ≡ running r) × Cycles r w.store c byte dma_byte scratch e.outcome e.scratch)
    × NoRegister e × NoTag w e
Made a key w (offer first token scratch) e =
    ((r : Running) × (w.board ≡ running r)
    × Offers a key r w.store first token scratch w.state e.outcome e.scratch e.state)
    × NoRegister e
Made a key w leave e =
    ((b : Matched) × (w.board ≡ matched b) × (e.outcome ≡ quiet Done (running b.running) w.store))
    × NoScratch e × NoRegister e × NoTag w e
Made a key w (install scratch register) e =
    (b : Matched) × (w.board ≡ matched b)
    × Installs a key b w.store scratch register w.state e.outcome e.scratch e.register e.state
Made a key w reset e =
    (e.outcome ≡ quiet Done cold w.store) × NoScratch e × NoRegister e × NoTag w e

abbrev pub Step : (a : Meaning) → a.Key → World a → Event a → Type 0
Step a key w e = Made a key w e.call e

-- A history is a list of events, the newest first; what there is after it, begun at w.
abbrev pub after : {a : Meaning} → World a → List (Event a) → World a
after w [] = w
after w (e ∷ h) = leaves e

-- A working life from w on: each event is a call on what those ahead of it left.
abbrev pub Life : (a : Meaning) → a.Key → World a → List (Event a) → Type 0
Life a key w [] = Unit {0}
Life a key w (e ∷ h) = Life a key w h × Step a key (after w h) e

-- The factory's load of an image was accepted and left w, over whatever the store held before. Every block of a store
-- has 512 bytes.
pub record Loaded {a : Meaning} (factory : List ℕ) (w : World a) : Type 0 where
  pub before : Medium
  pub whole : Whole before.blocks
  pub scratch : List ℕ
  pub outcome : Outcome
  pub scratch_left : List ℕ
  pub loads : Loads before factory scratch outcome scratch_left
  pub accepted : outcome.answer ≡ Done
  pub board_is : w.board ≡ outcome.board
  pub store_is : w.store ≡ outcome.store
