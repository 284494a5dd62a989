-- Pages can be staged, one after another, into open blocks that the running image does not fill.
use Rattle.std.proofs.Common.{◌≡◌, ℕ, suc, ◌+◌, ◌<◌, ◌≤◌, true, List, [], ◌∷◌, ◌++◌, length, set, sym, refl, ◌∙◌, inr, arith}
use Rattle.std.proofs.lemmas.List.{length-set, append_assoc}
use Rattle.authenticator.specs.Meaning.{Meaning}
use Rattle.layout.specs.Placing.{end_of, Fills}
use Rattle.store.specs.Medium.{Medium}
use Rattle.board.specs.declared.states.Running.{Running}
use Rattle.board.specs.declared.answers.Answer.TheVariants.{Done}
use Rattle.board.specs.States.{running}
use Rattle.board.specs.Writes.{put}
use Rattle.board.specs.Calls.{puts}
use Rattle.law.specs.History.{stage, World, Event, Step, after, Life}
use Rattle.law.proofs.Stored.{Sized}
use Rattle.law.proofs.Traces.{applied, whole, whole-written}

-- a life that goes on from h: the same image runs, and the live store has these blocks
pub record Onward (a : Meaning) (key : a.Key) (w : World a) (h : List (Event a)) (r : Running) (bs : List (List ℕ)) : Type 0 where
  pub history : List (Event a)
  pub added : List (Event a)
  pub is : history ≡ added ++ h
  pub life : Life a key w history
  pub board_is : (after w history).board ≡ running r
  pub live : (after w history).store.live ≡ true
  pub blocks_are : (after w history).store.blocks ≡ bs

module _ (a : Meaning) (key : a.Key) (w : World a) (r : Running) where
  -- one event more was added
  further : (e : Event a) (h : List (Event a)) (bs : List (List ℕ)) → Onward a key w (e ∷ h) r bs → Onward a key w h r bs
  further e h bs y = record {
    history = y.history;
    added = y.added ++ (e ∷ []);
    is = y.is ∙ sym (append_assoc y.added (e ∷ []) h);
    life = y.life;
    board_is = y.board_is;
    live = y.live;
    blocks_are = y.blocks_are;
  }

  -- pages from block b on
  pub staged : (xs : List (List ℕ)) (b : ℕ) (h : List (Event a)) → Life a key w h → (after w h).board ≡ running r → (after w h).store.live ≡ true →
      Sized xs → 4 ≤ b → b + length xs ≤ end_of (length (after w h).store.blocks) →
      ((c : ℕ) → b ≤ c → c < b + length xs → Fills r.place.first r.place.len c → ⊥) →
      Onward a key w h r (applied (puts b xs) (after w h).store.blocks)
  staged [] b h t on live s four room free = record { history = h; added = []; is = refl; life = t; board_is = on; live = live; blocks_are = refl }
  staged (x ∷ xs) b h t on live s four room free =
      let m : Medium = (after w h).store in
      let e : Event a =
      record { call = stage b x; outcome = whole m (put b x ∷ []) Done (running r); scratch = []; register = []; state = (after w h).state } in
      let step : Step a key (after w h) e = (
        (
          r,
          on,
          inr (
            s.0,
            inr (
              (four, omega arith),
              inr (
                free b (omega arith) (omega arith),
                whole-written m (put b x ∷ []) Done (running r) live ((s.0, omega arith), tt),
              ),
            ),
          ),
        ),
        refl,
        refl,
        refl,
      ) in
      further e h (applied (puts (suc b) xs) (set m.blocks b x))
      (staged xs (suc b) (e ∷ h) (t, step) refl refl s.1 (omega arith) (omega (arith, length-set m.blocks b x))
      (λ c ge lt. free c (omega arith) (omega arith)))
