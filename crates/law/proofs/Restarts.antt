-- Where a life ended with a cold board, a start can follow, and runs.
use Rattle.std.proofs.Common.{◌≡◌, ℕ, ◌≤◌, ◌⊎◌, List, length, sym, refl, ap, ◌∙◌, subst, inl, inr, arith}
use Rattle.std.specs.List.{AllByRecursion}
use Rattle.authenticator.specs.Meaning.{Meaning}
use Rattle.layout.specs.Image.{version_of, vectors_of}
use Rattle.layout.specs.Placing.{Lies}
use Rattle.layout.specs.declared.place.Place.{Place}
use Rattle.control.specs.Blocks.{flag_in}
use Rattle.control.specs.declared.kind.Flag.{Flag}
use Rattle.control.specs.declared.kind.Flag.TheVariants.{Finished}
use Rattle.control.proofs.Formed.{length-formed}
use Rattle.control.proofs.Held.{stands_from_formed}
use Rattle.store.specs.Medium.{Medium, held, woken}
use Rattle.board.specs.declared.states.Running.{Running}
use Rattle.board.specs.declared.answers.Answer.{Answer}
use Rattle.board.specs.declared.answers.Answer.TheVariants as answer
use Rattle.board.specs.States.{running, launch_of}
use Rattle.board.specs.Answers.{swept, shown, settled}
use Rattle.board.specs.Stored.{image_at}
use Rattle.board.specs.Writes.{Put}
use Rattle.board.specs.Tests.{Outcome, quiet}
use Rattle.board.specs.Calls.{bytes_at, closing, Resumes, confirmation_by}
use Rattle.law.specs.History.{start, World}
use Rattle.law.specs.Law.{Match}
use Rattle.law.specs.GoesOn.{Restarts}
use Rattle.law.proofs.Stored.{pointer_length, flag_length}
use Rattle.law.proofs.Traces.{Fitting, whole, whole-written}
use Rattle.law.proofs.Invariant.{Good, Half, Inv, reads_finished, base_vectors, legal}

-- the place of len bytes from block `first` on
abbrev pub place_at : (count first len : ℕ) → Lies count first len → Place
place_at count first len lies = record { first = first; len = len; lies = (omega arith, omega arith, omega arith) }

-- the three writes that end an install fit
pub closing_fits : (count f l : ℕ) (vs : List ℕ) → 8 ≤ count → length vs ≡ 32 → AllByRecursion (Fitting count) (closing f l vs)
closing_fits count f l vs many long =
    ((pointer_length f l, omega arith), ((length-formed vs (omega arith), omega arith), ((flag_length Finished, omega arith), tt)))

module _ (a : Meaning) (key : a.Key) (img : List ℕ) (m : Match) (n i : ℕ) (w : World a)
    (v : Inv a key img m n i w.board w.store.blocks w.store.live) where
  abbrev s : Medium
  s = w.store

  -- the image in its place, as it runs
  abbrev here : Running
  here = record { place = place_at (length s.blocks) v.first v.len v.base.lies; version = version_of (image_at s.blocks v.first v.len) }

  -- one of the two ways of a start
  resumes : Good img s.blocks v.first v.len ⊎ Half s.blocks v.first v.len n i →
      (o : Outcome) × Resumes (flag_in (held s 2)) (woken s) o × (o.board ≡ running here)
  resumes (inl g) =
      let o : Outcome = quiet (answer.Runs (launch_of here.place)) (running here) (woken s) in (
        o,
        subst (λ (t : Flag). Resumes t (woken s) o) (sym (reads_finished (held s 2) g.ended))
            (inr (inr (
              stands_from_formed 32 (vectors_of img) (held s 1) (base_vectors img s.blocks v.first v.len v.base) (omega arith) g.vectors,
              (here, (legal img s.blocks v.first v.len 0 v.base g.pointer, refl), refl),
            ))),
        refl,
      )
  resumes (inr h) =
      let vs : List ℕ = vectors_of (bytes_at s here) in
      let plan : List Put = closing v.first v.len vs in
      let said : Answer = answer.Confirmed (launch_of here.place) in
      let o : Outcome = whole (woken s) plan said (running here) in (
        o,
        subst (λ (t : Flag). Resumes t (woken s) o) (sym h.unended)
            (inr (
              here,
              (legal img s.blocks v.first v.len 3 v.base h.pointer, refl),
              whole-written (woken s) plan said (running here) refl (closing_fits (length s.blocks) v.first v.len vs v.base.fit.0
                  (ap (λ (x : List ℕ). length (vectors_of x)) v.base.image ∙ base_vectors img s.blocks v.first v.len v.base)),
            )),
        refl,
      )

  -- a start with right buffers can follow, and runs
  pub restarts : Restarts a key w
  restarts off scratch register long wide =
      let x = resumes v.store in
      let o : Outcome = x.0 in (
        record {
          call = start scratch register;
          outcome = o;
          scratch = swept o.answer scratch;
          register = shown (confirmation_by a key s o.board) o.answer register;
          state = settled (a.begin key) o.answer w.state;
        },
        refl,
        (
          off,
          record {
            outcome = inr ((long, wide), inr (v.base.fit, x.1));
            scratch_left = refl;
            register_left = refl;
            state_left = refl;
          },
        ),
        (here, x.2),
      )
