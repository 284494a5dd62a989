-- Lives that keep the law.
use Rattle.std.specs.Prelude.{◌≡◌, ℕ, ◌≤◌, Bool, true, false, cond, List, [], ◌∷◌, ◌++◌, length, Some, None, Ok, Err, vec_items, vec_len, vec_capacity, Option, Result, ◌≢◌}
use Rattle.std.specs.declared.alloc.AllocError.{AllocError}
use Rattle.authenticator.specs.Meaning.{Meaning}
use Rattle.store.specs.Medium.{Medium}
use Rattle.board.specs.declared.answers.Answer.{Answer}
use Rattle.board.specs.declared.answers.Answer.TheVariants.{Done}
use Rattle.board.specs.States.{Board, cold, running, matched}
use Rattle.board.specs.Tests.{Outcome}
use Rattle.board.specs.Answers.{cleared}
use Rattle.board.specs.Calls.{Loads}
use Rattle.law.specs.History.{World, Event, Step, after, Loaded}
use Rattle.law.specs.History as history
use Rattle.law.specs.Law.{Kept}
use Rattle.lifecycle.specs.declared.journal.Call.{Call}
use Rattle.lifecycle.specs.declared.journal.Call.TheVariants.{Start, Stage, Cycle, Offer, Leave, Install, Reset}
use Rattle.lifecycle.specs.declared.journal.Entry.{Entry}
use Rattle.lifecycle.specs.declared.life.Life.{Life}
use Rattle.lifecycle.specs.declared.life.Unbegun.{Unbegun}
use Rattle.lifecycle.specs.Journal.{board_of, board_in, call_of, kept_of, Told}

-- The law holds of each event of a history.
abbrev pub Always : (a : Meaning) → a.Key → List ℕ → List (Event a) → Type 0
Always a key factory [] = Unit {0}
Always a key factory (e ∷ h) = Kept a key factory e h × Always a key factory h

abbrev pub world : {a : Meaning} → Board → Medium → a.State → World a
world board m state = record { board = board; store = m; state = state }

-- There is a history that begins with the factory's load, of which the journal tells entry by entry, and which leads to
-- this board, store and authenticator; and the law holds of each of its events.
pub record Lived (a : Meaning) (key : a.Key) (factory : List ℕ) (journal : List Entry) (w : World a) : Type 0 where
  pub begun : World a
  pub loaded : Loaded factory begun
  pub events : List (Event a)
  pub life : history.Life a key begun events
  pub told : Told events journal
  pub leads : after begun events ≡ w
  pub kept : Always a key factory events

-- The same of a life that code holds, by what its store and its authenticator mean.
abbrev pub Lawful : {S K : Type 0} → (S → Medium) → (a : Meaning) → (K → a.Key) → (K → a.State) → Life S K → Type 0
Lawful medium a key state l =
    Lived a (key l.authenticator) (vec_items l.factory) (vec_items l.journal)
    (world (board_of l.board) (medium l.store) (state l.authenticator))

-- A life goes on as another one: it keeps the law, under the key and from the factory's image that it had.
pub record Continues {S K : Type 0} (medium : S → Medium) (a : Meaning) (key : K → a.Key) (state : K → a.State) (l l' : Life S K) : Type 0 where
  pub lawful : Lawful medium a key state l → Lawful medium a key state l'
  pub same_key : key l'.authenticator ≡ key l.authenticator
  pub same_factory : l'.factory ≡ l.factory

-- Which board a call needs; which buffers it uses.
abbrev pub is_cold : Board → Bool
is_cold cold = true
is_cold (running r) = false
is_cold (matched b) = false

abbrev pub is_running : Board → Bool
is_running cold = false
is_running (running r) = true
is_running (matched b) = false

abbrev pub is_matched : Board → Bool
is_matched cold = false
is_matched (running r) = false
is_matched (matched b) = true

abbrev pub fits : Call → Board → Bool
fits Start board = is_cold board
fits (Stage block bytes) board = is_running board
fits (Cycle c byte dma_byte) board = is_running board
fits (Offer first token) board = is_running board
fits Leave board = is_matched board
fits Install board = is_matched board
fits Reset board = true

abbrev pub uses_scratch : Call → Bool
uses_scratch Start = true
uses_scratch (Stage block bytes) = false
uses_scratch (Cycle c byte dma_byte) = true
uses_scratch (Offer first token) = true
uses_scratch Leave = false
uses_scratch Install = true
uses_scratch Reset = false

abbrev pub uses_register : Call → Bool
uses_register Start = true
uses_register (Stage block bytes) = false
uses_register (Cycle c byte dma_byte) = false
uses_register (Offer first token) = false
uses_register Leave = false
uses_register Install = true
uses_register Reset = false

-- The register that the journal keeps for a call.
abbrev pub shown_by : Call → List ℕ → List ℕ
shown_by call register = kept_of (cond (uses_register call) register [])

-- A buffer that a call uses is as its event leaves it; another one is as it was.
abbrev pub Used : Bool → List ℕ → List ℕ → List ℕ → Type 0
Used true before seen left = seen ≡ left
Used false before seen left = (seen ≡ []) × (left ≡ before)

-- What there is beside the journal: what a call can change.
pub record Bench (a : Meaning) : Type 0 where
  pub world : World a
  pub scratch : List ℕ
  pub register : List ℕ

abbrev pub bench : {a : Meaning} → Board → Medium → a.State → List ℕ → List ℕ → Bench a
bench board m state scratch register = record { world = world board m state; scratch = scratch; register = register }

abbrev pub bench_of : {S K : Type 0} → (S → Medium) → (a : Meaning) → (K → a.State) → Life S K → List ℕ → List ℕ → Bench a
bench_of medium a state l scratch register = bench (board_of l.board) (medium l.store) (state l.authenticator) scratch register

-- A call was made, and this is its event; or it does not fit the board, and nothing has changed.
abbrev pub Performed : (a : Meaning) → a.Key → Bench a → Call → Option Answer → Bench a → Type 0
Performed a key b call (Some answer) b' =
    (e : Event a) × Step a key b.world e
    × (e.call ≡ call_of call b.scratch b.register) × (e.outcome.answer ≡ answer) × (history.leaves e ≡ b'.world)
    × Used (uses_scratch call) b.scratch e.scratch b'.scratch
    × Used (uses_register call) b.register e.register b'.register
Performed a key b call None b' = (fits call b.world.board ≡ false) × (b' ≡ b)

-- The journal has one entry more, which tells of this call; or it is as it was.
pub record Notes (call : Call) (scratch register : List ℕ) (answer : Answer) (board : Board) (register' : List ℕ) (n : Entry) : Type 0 where
  pub call_is : n.call ≡ call
  pub scratch_len : n.scratch ≡ length scratch
  pub register_len : n.register ≡ length register
  pub answer_is : n.answer ≡ answer
  pub board_is : board_in n.standing ≡ board
  pub shown_is : n.shown ≡ shown_by call register'

abbrev pub Grows : List Entry → Call → List ℕ → List ℕ → Option Answer → Board → List ℕ → List Entry → Type 0
Grows journal call scratch register (Some answer) board register' journal' =
    (n : Entry) × Notes call scratch register answer board register' n × (journal' ≡ journal ++ (n ∷ []))
Grows journal call scratch register None board register' journal' = journal' ≡ journal

-- A life was to begin with the load of the factory's image: it did, and keeps the law, or the load tells why not.
abbrev pub Begins : {S K : Type 0} → (S → Medium) → (a : Meaning) → (K → a.Key) → (K → a.State) → Medium → K → List ℕ → List ℕ
    → Result (Life S K) (Unbegun S K) → List ℕ → Type 0
Begins medium a key state m k factory scratch (Ok l) scratch' =
    Lawful medium a key state l × (l.authenticator ≡ k) × (vec_items l.factory ≡ factory) × (vec_items l.journal ≡ [])
    × ((o : Outcome) × Loads m factory scratch o scratch' × (o.answer ≡ Done) × (o.store ≡ medium l.store))
Begins medium a key state m k factory scratch (Err u) scratch' =
    (u.authenticator ≡ k) × (vec_items u.factory ≡ factory)
    × ((o : Outcome) × Loads m factory scratch o scratch' × (o.answer ≡ u.answer) × (u.answer ≢ Done) × (o.store ≡ medium u.store))

-- What a call made of a life, and of the buffers that it was lent.
abbrev pub Lives : {S K : Type 0} → (S → Medium) → (a : Meaning) → (K → a.Key) → (K → a.State) → Life S K → Call → List ℕ → List ℕ
    → Result (Option Answer) AllocError → Life S K → List ℕ → List ℕ → Type 0
Lives medium a key state l call scratch register (Ok answer) l' scratch' register' =
    Performed a (key l.authenticator) (bench_of medium a state l scratch register) call answer (bench_of medium a state l' scratch' register')
    × Grows (vec_items l.journal) call scratch register answer (board_of l'.board) register' (vec_items l'.journal)
Lives medium a key state l call scratch register (Err e) l' scratch' register' =
    (bench_of medium a state l' scratch' register' ≡ bench_of medium a state l scratch register)
    × (vec_items l'.journal ≡ vec_items l.journal) × (vec_capacity l.journal ≤ vec_len l.journal)

-- What a whole life comes to: it keeps the law, under the key and from the factory's image that it was given, and both
-- buffers are zeros; or it did not begin.
abbrev pub Lasts : {S K : Type 0} → (S → Medium) → (a : Meaning) → (K → a.Key) → (K → a.State) → Medium → K → List ℕ → List ℕ → List ℕ
    → Result (Life S K × Result Unit AllocError) (Unbegun S K) → List ℕ → List ℕ → Type 0
Lasts medium a key state m k factory scratch register (Ok p) scratch' register' =
    Lawful medium a key state p.0 × (key p.0.authenticator ≡ key k) × (vec_items p.0.factory ≡ factory)
    × (scratch' ≡ cleared scratch) × (register' ≡ cleared register)
Lasts medium a key state m k factory scratch register (Err u) scratch' register' =
    Begins medium a key state m k factory scratch (Err u) scratch' × (register' ≡ register)
