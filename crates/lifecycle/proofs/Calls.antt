-- Each call, as it was made on a board, is an event.
use Rattle.std.proofs.Common.{◌≡◌, ℕ, List, [], Some, vec_items, Option, Vec, sym, refl, ap, subst}
use Rattle.std.specs.declared.alloc.Global.{Global}
use Rattle.authenticator.specs.Meaning.{Meaning}
use Rattle.store.specs.Medium.{Medium}
use Rattle.watch.specs.declared.cycle.Cycle.{Cycle as Signals}
use Rattle.board.specs.declared.answers.Answer.{Answer}
use Rattle.board.specs.declared.answers.Answer.TheVariants.{Done}
use Rattle.board.specs.declared.states.Running.{Running}
use Rattle.board.specs.declared.states.Matched.{Matched}
use Rattle.board.specs.States.{Board, cold, running, matched}
use Rattle.board.specs.Results.{outcome}
use Rattle.board.specs.Tests.{Outcome}
use Rattle.board.specs.Writes.{Write}
use Rattle.board.specs.Calls.{Starts, Stages, Cycles, Offers, Installs}
use Rattle.law.specs.History.{Event, start, stage, cycle, offer, leave, install, reset}
use Rattle.board.specs.declared.results.Board.{Board as Held}
use Rattle.lifecycle.specs.declared.journal.Call.{Call}
use Rattle.lifecycle.specs.declared.journal.Call.TheVariants as call
use Rattle.lifecycle.specs.Journal.{board_of}
use Rattle.lifecycle.specs.Lived.{bench, Performed}

-- An event with this outcome, and these buffers and state left.
abbrev event : {a : Meaning} → Rattle.law.specs.History.Call → List Write → Answer → Board → Medium → List ℕ → List ℕ → a.State → Event a
event c ws said board m scratch register state =
    record { call = c; outcome = outcome ws said board m; scratch = scratch; register = register; state = state }

module _ (a : Meaning) (key : a.Key) (board : Board) (m m' : Medium) (state state' : a.State) (scratch scratch' register register' : List ℕ)
    (o : Outcome) (ws : List Write) (said : Answer) (is : o ≡ outcome ws said board m') where
  pub start_made : Starts a key m scratch register state o scratch' register' state' →
      Performed a key (bench cold m state scratch register) call.Start (Some said) (bench board m' state' scratch' register')
  start_made s =
      let s' = subst (λ (x : Outcome). Starts a key m scratch register state x scratch' register' state') is s in
      (event (start scratch register) ws said board m' scratch' register' state', (refl, s'), refl, refl, refl, refl, refl)

  pub install_made : (b : Matched) → Installs a key b m scratch register state o scratch' register' state' →
      Performed a key (bench (matched b) m state scratch register) call.Install (Some said) (bench board m' state' scratch' register')
  install_made b s =
      let s' = subst (λ (x : Outcome). Installs a key b m scratch register state x scratch' register' state') is s in
      (event (install scratch register) ws said board m' scratch' register' state', (b, refl, s'), refl, refl, refl, refl, refl)

module _ (a : Meaning) (key : a.Key) (board : Board) (m m' : Medium) (state : a.State) (scratch register : List ℕ)
    (o : Outcome) (ws : List Write) (said : Answer) (is : o ≡ outcome ws said board m') where
  pub stage_made : (r : Running) (block : ℕ) (bytes : Vec ℕ Global) (lent : List ℕ) → lent ≡ vec_items bytes → Stages r m block lent o →
      Performed a key (bench (running r) m state scratch register) (call.Stage block bytes) (Some said) (bench board m' state scratch register)
  stage_made r block bytes lent e s =
      let s' = subst (λ (x : Outcome). Stages r m block (vec_items bytes) x) is (subst (λ (x : List ℕ). Stages r m block x o) e s) in
      (event (stage block (vec_items bytes)) ws said board m' [] [] state, ((r, refl, s'), refl, refl, refl), refl, refl, refl, (refl, refl), (refl, refl))

  pub cycle_made : (scratch' : List ℕ) (r : Running) (c : Signals) (byte dma_byte : ℕ) → Cycles r m c byte dma_byte scratch o scratch' →
      Performed a key (bench (running r) m state scratch register) (call.Cycle c byte dma_byte) (Some said) (bench board m' state scratch' register)
  cycle_made scratch' r c byte dma_byte s =
      let s' = subst (λ (x : Outcome). Cycles r m c byte dma_byte scratch x scratch') is s in
      (event (cycle c byte dma_byte scratch) ws said board m' scratch' [] state, ((r, refl, s'), refl, refl), refl, refl, refl, refl, (refl, refl))

  pub offer_made : (state' : a.State) (scratch' : List ℕ) (r : Running) (first : ℕ) (token : Vec ℕ Global) (lent : List ℕ) → lent ≡ vec_items token →
      Offers a key r m first lent scratch state o scratch' state' →
      Performed a key (bench (running r) m state scratch register) (call.Offer first token) (Some said) (bench board m' state' scratch' register)
  offer_made state' scratch' r first token lent e s =
      let s' = subst (λ (x : Outcome). Offers a key r m first (vec_items token) scratch state x scratch' state') is
      (subst (λ (x : List ℕ). Offers a key r m first x scratch state o scratch' state') e s) in
      (event (offer first (vec_items token) scratch) ws said board m' scratch' [] state', ((r, refl, s'), refl), refl, refl, refl, refl, (refl, refl))

module _ (a : Meaning) (key : a.Key) (m : Medium) (state : a.State) (scratch register : List ℕ) where
  pub leave_made : (b : Matched) (r : Running) → r ≡ b.running →
      Performed a key (bench (matched b) m state scratch register) call.Leave (Some Done) (bench (running r) m state scratch register)
  leave_made b r e = (
    event leave [] Done (running r) m [] [] state,
    ((b, refl, ap (λ (x : Running). outcome [] Done (running x) m) e), refl, refl, refl),
    refl,
    refl,
    refl,
    (refl, refl),
    (refl, refl),
  )

  pub reset_made : (board : Board) →
      Performed a key (bench board m state scratch register) call.Reset (Some Done) (bench cold m state scratch register)
  reset_made board = (event reset [] Done cold m [] [] state, (refl, refl, refl, refl), refl, refl, refl, (refl, refl), (refl, refl))

-- The same of the call, the boards and the answer that the code has.
pub as_told : (a : Meaning) (key : a.Key) (m m' : Medium) (state state' : a.State) (scratch scratch' register register' : List ℕ)
    (call call' : Call) (board board₁ left left₁ : Held) (answer : Option Answer) (said : Answer) →
    call ≡ call' → board ≡ board₁ → (left ≡ left₁) × (answer ≡ Some said) →
    Performed a key (bench (board_of board₁) m state scratch register) call' (Some said) (bench (board_of left₁) m' state' scratch' register') →
    Performed a key (bench (board_of board) m state scratch register) call answer (bench (board_of left) m' state' scratch' register')
as_told a key m m' state state' scratch scratch' register register' call call' board board₁ left left₁ answer said ec eb el p =
    subst (λ (x : Call). Performed a key (bench (board_of board) m state scratch register) x answer (bench (board_of left) m' state' scratch' register')) (sym ec)
    (subst (λ (x : Held). Performed a key (bench (board_of x) m state scratch register) call' answer (bench (board_of left) m' state' scratch' register')) (sym eb)
    (subst (λ (x : Held). Performed a key (bench (board_of board₁) m state scratch register) call' answer (bench (board_of x) m' state' scratch' register')) (sym el.0)
    (subst (λ (x : Option Answer). Performed a key (bench (board_of board₁) m state scratch register) call' x (bench (board_of left₁) m' state' scratch' register')) (sym el.1) p)))
