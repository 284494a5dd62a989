-- The law, from the invariant of a whole life.
use Rattle.std.proofs.Common.{◌≡◌, ℕ, List, [], ◌∷◌, sym, ◌∙◌, subst, ap₂, inl, inr}
use Rattle.authenticator.specs.Meaning.{Meaning}
use Rattle.store.specs.Medium.{Medium}
use Rattle.board.specs.declared.states.Running.{Running}
use Rattle.board.specs.States.{Board, running, matched}
use Rattle.board.specs.Stored.{image_at}
use Rattle.board.specs.Calls.{bytes_at}
use Rattle.law.specs.History.{World, Event, after, Life, Loaded}
use Rattle.law.specs.Law.{Match, offered, current, installs, confirmations, On, Runs, Law}
use Rattle.law.proofs.Invariant.{Duty, OnBoard, Inv}
use Rattle.law.proofs.Shown.{RightStart}
use Rattle.law.proofs.Steps.{step_shown}
use Rattle.law.proofs.Loads.{loaded_inv}

-- the invariant after a history
abbrev pub Holding : (a : Meaning) → a.Key → List ℕ → World a → List (Event a) → Type 0
Holding a key factory w h =
    Inv a key (current factory h) (offered h) (confirmations h) (installs h) (after w h).board (after w h).store.blocks (after w h).store.live

-- it holds after every life
pub holds : (a : Meaning) (key : a.Key) (factory : List ℕ) (w : World a) → Loaded factory w → (h : List (Event a)) → Life a key w h →
    Holding a key factory w h
holds a key factory w x [] t = loaded_inv a key factory w x
holds a key factory w x (e ∷ h) t =
    (step_shown a key (current factory h) (offered h) (confirmations h) (installs h) (after w h) e (holds a key factory w x h t.0) t.1).inv

-- what a running or matched board runs
runs : (a : Meaning) (key : a.Key) (img : List ℕ) (m : Match) (n i : ℕ) (board : Board) (s : Medium) → Inv a key img m n i board s.blocks s.live →
    (r : Running) → On board r → Runs s r img
runs a key img m n i board s v r o = one (go o)
  where
    at : (b : Board) → board ≡ b → OnBoard a key img m s.blocks s.live v.first v.len b
    at b e = subst (OnBoard a key img m s.blocks s.live v.first v.len) e v.on_board

    go : On board r → Duty img s.blocks s.live v.first v.len r
    go (inl e) = at (running r) e
    go (inr (b, e, is)) = subst (Duty img s.blocks s.live v.first v.len) is (at (matched b) e).0

    one : Duty img s.blocks s.live v.first v.len r → Runs s r img
    one d = record {
      bytes = ap₂ (image_at s.blocks) d.first_is d.len_is ∙ v.base.image;
      version_is = d.version_is;
      vectors_stand = d.good.vectors;
    }

-- the law
pub law : (a : Meaning) (key : a.Key) → Law a key
law a key factory w x e h t =
    let here = step_shown a key (current factory h) (offered h) (confirmations h) (installs h) (after w h) e (holds a key factory w x h t.0) t.1 in
    let on = runs a key _ _ _ _ e.outcome.board e.outcome.store here.inv in
    record {
      right_image = on;
      starts = λ scratch register is long wide. here.starts (subst RightStart (sym is) (long, wide));
      higher = λ y. (here.took y).0;
      authentic = λ y. (here.took y).1;
      only_ended = λ y. (here.only y.0 y.1).0;
      always_ended = here.always;
      of_running = λ y.
          let z = here.only y.0 y.1 in
          (z.1.0, z.1.1, z.2 (bytes_at e.outcome.store z.1.0) (on z.1.0 (inl z.1.1)).bytes);
      at_most_one = here.inv.once;
      none_for_factory = here.inv.unasked;
    }
