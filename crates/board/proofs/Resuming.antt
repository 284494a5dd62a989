-- A start, from its parts.
use Rattle.std.proofs.Common.{◌≡◌, ℕ, ◌≤◌, true, List, length, Ok, Err, sym, refl, ap, ◌∙◌, subst, inl, inr}
use Rattle.authenticator.specs.Meaning.{Meaning, padded}
use Rattle.layout.specs.Image.{nonce_of, vectors_of}
use Rattle.planner.specs.Confirmation.{confirmation_of}
use Rattle.store.specs.Medium.{Medium, Whole, held, woken}
use Rattle.control.specs.Blocks.{flag_in}
use Rattle.control.specs.declared.kind.Flag.{Flag}
use Rattle.control.specs.declared.kind.Flag.TheVariants.{Finished, Unfinished}
use Rattle.board.specs.declared.answers.Answer.{Answer}
use Rattle.board.specs.declared.answers.Answer.TheVariants as answer
use Rattle.board.specs.declared.answers.Launch.{Launch}
use Rattle.board.specs.declared.answers.Supply.{Supply}
use Rattle.board.specs.declared.results.Unstarted.TheVariants as unstarted
use Rattle.board.specs.declared.states.Cold.{Cold}
use Rattle.board.specs.declared.states.Running.{Running}
use Rattle.board.specs.Answers.{cleared, swept, shown, settled}
use Rattle.board.specs.Calls.{RunsBy, bytes_at, closing, confirmation_by, IsScratch, IsRegister, IsStore, Resumes, Starts}
use Rattle.board.specs.Readable.{Readable}
use Rattle.board.specs.Results.{started}
use Rattle.board.specs.Resumed.{Resumed}
use Rattle.board.specs.Rows.{Row}
use Rattle.board.specs.States.{Board, cold, running, matched, launch_of}
use Rattle.board.specs.Tests.{Outcome, quiet}
use Rattle.board.specs.Writes.{Write}
use Rattle.board.proofs.Cleared.{cleared_same}
use Rattle.board.proofs.Made.{all_done, not_done}

module _ (a : Meaning) (key : a.Key) (m e : Medium) (register register' : List ℕ) (state state' : a.State) (r : Running) (runs : RunsBy m 3 r) where
  pub finished : (l : Launch) (vectors nonce : List ℕ) → l ≡ launch_of r.place → vectors ≡ vectors_of (bytes_at m r) → nonce ≡ nonce_of (bytes_at m r)
      → Row 1 (closing r.place.first r.place.len vectors) m (Ok tt) e
      → register' ≡ padded (confirmation_of a key r.version nonce) → state' ≡ a.begin key
      → (ws : List Write) × Resumed a key m register state (started ws (Ok (record { running = r; launch = l; confirmed = true })) e) register' state'
  finished l vectors nonce is vs ns row confirmed begun =
      let said = answer.Confirmed (launch_of r.place) in
      let w = all_done (closing r.place.first r.place.len (vectors_of (bytes_at m r))) m said (running r) e
      (subst (λ (v : List ℕ). Row 1 (closing r.place.first r.place.len v) m (Ok tt) e) vs row) in (
        w.0,
        subst (λ (j : Launch). Resumed a key m register state (started w.0 (Ok (record { running = r; launch = j; confirmed = true })) e) register' state') (sym is)
            (record {
              outcome = inr (r, runs, w.1);
              register_left = confirmed ∙ ap (λ (n : List ℕ). padded (confirmation_of a key r.version n)) ns;
              state_left = begun;
            }),
      )

  pub unfinished : (c : Cold) (s : Supply) (vectors : List ℕ) → vectors ≡ vectors_of (bytes_at m r)
      → Row 1 (closing r.place.first r.place.len vectors) m (Err s) e
      → register' ≡ cleared register → state' ≡ state
      → (ws : List Write) × Resumed a key m register state (started ws (Err (unstarted.Supply c s)) e) register' state'
  unfinished c s vectors vs row none kept =
      let said = answer.Confirmed (launch_of r.place) in
      let w = not_done (closing r.place.first r.place.len (vectors_of (bytes_at m r))) m said (running r) e s
      (subst (λ (v : List ℕ). Row 1 (closing r.place.first r.place.len v) m (Err s) e) vs row) in
      (w.0, record { outcome = inr (r, runs, w.1); register_left = none; state_left = kept })

sym_left : (m : Medium) (o : Outcome) {State : Type 0} (b t : State) (confirmation xs ys : List ℕ) (said : Answer) (board : Board)
    → o ≡ quiet said board m → cleared xs ≡ swept said xs → cleared ys ≡ shown confirmation said ys → t ≡ settled b said t
    → (cleared xs ≡ swept o.answer xs) × (cleared ys ≡ shown confirmation o.answer ys) × (t ≡ settled b o.answer t)
sym_left m o b t confirmation xs ys said board e p q r =
    let is : said ≡ o.answer = sym (ap (λ (x : Outcome). x.answer) e) in
    (p ∙ ap (λ (x : Answer). swept x xs) is, q ∙ ap (λ (x : Answer). shown confirmation x ys) is, r ∙ ap (λ (x : Answer). settled b x t) is)

-- what an answer leaves of the buffers, by the register's length
abbrev Leaves : List ℕ → List ℕ → List ℕ → List ℕ → Answer → Type 0
Leaves confirmation xs ys zs said = (cleared xs ≡ swept said xs) × (shown confirmation said ys ≡ shown confirmation said zs)

-- a start that wrote nothing leaves zeros, and the authenticator as it was
quiet_left : (m : Medium) (o : Outcome) {State : Type 0} (b t : State) (confirmation xs ys : List ℕ) → Resumes Finished m o
    → (cleared xs ≡ swept o.answer xs) × (cleared ys ≡ shown confirmation o.answer ys) × (t ≡ settled b o.answer t)
quiet_left m o b t confirmation xs ys (inl p) = sym_left m o b t confirmation xs ys (answer.NotLoaded 0) cold p.1 refl refl refl
quiet_left m o b t confirmation xs ys (inr (inl p)) = sym_left m o b t confirmation xs ys (answer.NotLoaded 1) cold p.2 refl refl refl
quiet_left m o b t confirmation xs ys (inr (inr p)) =
    sym_left m o b t confirmation xs ys (answer.Runs (launch_of p.1.0.place)) (running p.1.0) p.1.2 refl refl refl

-- an end of an install leaves zeros in the scratch buffer, and only the length of the register counts
written_left : (m : Medium) (o : Outcome) (confirmation xs ys zs : List ℕ) → length ys ≡ length zs → Resumes Unfinished m o
    → (cleared xs ≡ swept o.answer xs) × (shown confirmation o.answer ys ≡ shown confirmation o.answer zs)
written_left m o confirmation xs ys zs long (inl p) =
    subst (Leaves confirmation xs ys zs) (sym (ap (λ (x : Outcome). x.answer) p.1)) (refl, cleared_same ys zs long)
written_left m o confirmation xs ys zs long (inr (r, runs, (Ok u, makes, ended))) =
    subst (Leaves confirmation xs ys zs) (sym ended.0) (refl, refl)
written_left m o confirmation xs ys zs long (inr (r, runs, (Err s, makes, ended))) =
    subst (Leaves confirmation xs ys zs) (sym ended.0) (refl, cleared_same ys zs long)

same_confirmation : (a : Meaning) (key : a.Key) (m : Medium) (b : Board) → confirmation_by a key (woken m) b ≡ confirmation_by a key m b
same_confirmation a key m cold = refl
same_confirmation a key m (running r) = refl
same_confirmation a key m (matched b) = refl

module _ (a : Meaning) (key : a.Key) (m d : Medium) (scratch register : List ℕ) (state : a.State) (right : IsScratch scratch) (fits : IsRegister register)
    (size : IsStore m) (woke : d ≡ woken m) where
  flag_kept : (f : Flag) → f ≡ flag_in (held d 2) → f ≡ flag_in (held m 2)
  flag_kept f e = e ∙ ap (λ (x : Medium). flag_in (held x 2)) woke

  pub finished_start : (o : Outcome) (register' : List ℕ) (state' : a.State) → Finished ≡ flag_in (held d 2) → Resumes Finished d o
      → register' ≡ cleared register → state' ≡ state → Starts a key m scratch register state o (cleared scratch) register' state'
  finished_start o register' state' flag p none kept =
      let left = quiet_left d o (a.begin key) state (confirmation_by a key m o.board) scratch register p in
      let q : Resumes Finished (woken m) o = subst (λ (x : Medium). Resumes Finished x o) woke p in
      record {
        outcome = inr ((right, fits), inr (size, subst (λ (f : Flag). Resumes f (woken m) o) (flag_kept Finished flag) q));
        scratch_left = left.0;
        register_left = none ∙ left.1;
        state_left = kept ∙ left.2;
      }

  pub unfinished_start : (o : Outcome) (zeros register' : List ℕ) (state' : a.State) → length zeros ≡ length register → Unfinished ≡ flag_in (held d 2)
      → Resumed a key d zeros state o register' state' → Starts a key m scratch register state o (cleared scratch) register' state'
  unfinished_start o zeros register' state' long flag p =
      let q : Resumed a key (woken m) zeros state o register' state' = subst (λ (x : Medium). Resumed a key x zeros state o register' state') woke p in
      let confirmation = confirmation_by a key m o.board in
      let left = written_left (woken m) o confirmation scratch zeros register long q.outcome in
      record {
        outcome = inr ((right, fits), inr (size, subst (λ (f : Flag). Resumes f (woken m) o) (flag_kept Unfinished flag) q.outcome));
        scratch_left = left.0;
        register_left = q.register_left ∙ (ap (λ (c : List ℕ). shown c o.answer zeros) (same_confirmation a key m o.board) ∙ left.1);
        state_left = q.state_left;
      }

-- a store that was woken can be read
pub awake : (m d : Medium) → d ≡ woken m → Whole m.blocks → IsStore m → Readable d × (8 ≤ length d.blocks)
awake m d woke whole size = subst (λ (x : Medium). Readable x × (8 ≤ length x.blocks)) (sym woke) ((refl, whole), size.0)
