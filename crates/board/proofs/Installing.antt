-- An install, from its writes and from what is left of the buffers.
use Rattle.std.proofs.Common.{◌≡◌, ℕ, List, Ok, Err, sym, subst, inr}
use Rattle.authenticator.specs.Meaning.{Meaning, padded}
use Rattle.planner.specs.Confirmation.{confirmation_of}
use Rattle.store.specs.Medium.{Medium}
use Rattle.board.specs.declared.answers.Answer.TheVariants as answer
use Rattle.board.specs.declared.answers.Supply.{Supply}
use Rattle.board.specs.declared.results.Denied.TheVariants as denied
use Rattle.board.specs.declared.results.Installed.{Installed}
use Rattle.board.specs.declared.states.Cold.{Cold}
use Rattle.board.specs.declared.states.Matched.{Matched}
use Rattle.board.specs.Answers.{cleared}
use Rattle.board.specs.Calls.{Installs, IsScratch, IsRegister, installing}
use Rattle.board.specs.Results.{installed}
use Rattle.board.specs.Rows.{Row}
use Rattle.board.specs.States.{running, bytes_of, launch_of}
use Rattle.board.specs.Writes.{Write}
use Rattle.board.proofs.Made.{all_done, not_done}

-- what an install runs
abbrev pub installed_by : Matched → Installed
installed_by b = record { running = record { place = b.place; version = b.version }; launch = launch_of b.place }

module _ (a : Meaning) (key : a.Key) (b : Matched) (m e : Medium) (scratch register scratch' register' : List ℕ) (state state' : a.State)
    (right : IsScratch scratch) (fits : IsRegister register) (swept : scratch' ≡ cleared scratch) where
  pub install_done : (i : Installed) → i ≡ installed_by b
      → Row 1 (installing b.place.first b.place.len (bytes_of b.vectors)) m (Ok tt) e
      → register' ≡ padded (confirmation_of a key b.version b.nonce) → state' ≡ a.begin key
      → (ws : List Write) × Installs a key b m scratch register state (installed ws (Ok i) e) scratch' register' state'
  install_done i is row confirmed begun =
      let w = all_done (installing b.place.first b.place.len (bytes_of b.vectors)) m (answer.Confirmed (launch_of b.place)) (running (installed_by b).running) e row in (
        w.0,
        subst (λ (j : Installed). Installs a key b m scratch register state (installed w.0 (Ok j) e) scratch' register' state') (sym is)
            (record { outcome = inr ((right, fits), w.1); scratch_left = swept; register_left = confirmed; state_left = begun }),
      )

  pub install_cut : (c : Cold) (s : Supply)
      → Row 1 (installing b.place.first b.place.len (bytes_of b.vectors)) m (Err s) e
      → register' ≡ cleared register → state' ≡ state
      → (ws : List Write) × Installs a key b m scratch register state (installed ws (Err (denied.Supply c s)) e) scratch' register' state'
  install_cut c s row none kept =
      let w = not_done (installing b.place.first b.place.len (bytes_of b.vectors)) m (answer.Confirmed (launch_of b.place)) (running (installed_by b).running) e s row in
      (w.0, record { outcome = inr ((right, fits), w.1); scratch_left = swept; register_left = none; state_left = kept })
