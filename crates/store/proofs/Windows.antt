-- A window has a store's meaning: what the store below answers and becomes, seen through it.
use Rattle.std.proofs.Common.{◌≡◌, ℕ, zero, suc, ◌+◌, ◌-◌, ◌<◌, min, Bool, true, false, List, [], ◌∷◌, length, take, drop, set, Ok, Err, Result, sym, refl, ap, ◌∙◌, inl, inr, ⊎_elim, arith}
use Rattle.std.proofs.lemmas.List.{length-take, length-drop, get_or-take, get_or-drop, drop-set-add}
use Rattle.store.specs.declared.fault.Fault.{Fault}
use Rattle.store.specs.Calls.{Fits, Ready, Refuses, Reading, Writing}
use Rattle.store.specs.Faults.{passed}
use Rattle.store.specs.Medium.{Medium, Whole, held, after, dark}
use Rattle.store.specs.Window.{windowed, lifted, Placing, Below}

-- a change within or past the first n
take-set-within : (n : ℕ) (l : List (List ℕ)) (i : ℕ) (x : List ℕ) → take n (set l i x) ≡ set (take n l) i x
take-set-within zero l i x = refl
take-set-within (suc n) [] i x = refl
take-set-within (suc n) (y ∷ l) zero x = refl
take-set-within (suc n) (y ∷ l) (suc i) x = ap (λ r. y ∷ r) (take-set-within n l i x)

module _ (m : Medium) (begin size : ℕ) where
  -- the size is cut down to what lies below
  pub window_count : length (windowed m begin size).blocks ≡ min size (length m.blocks - begin)
  window_count = simp (length-take, length-drop) refl

  -- block b of the window is block begin + b below
  pub window_held : (b : ℕ) → b < length (windowed m begin size).blocks → held (windowed m begin size) b ≡ held m (begin + b)
  window_held b lt = let n = window_count in get_or-take size (drop begin m.blocks) b [] (omega arith) ∙ get_or-drop begin m.blocks b []

  -- its blocks are whole where those below are
  pub window_whole : Whole m.blocks → Whole (windowed m begin size).blocks
  window_whole whole b lt = let n = window_count in ap length (window_held b lt) ∙ whole (begin + b) (omega arith)

  -- a block changed below is that block changed in the window
  window_after : (b : ℕ) (x : List ℕ) (live : Bool) → windowed (after m (begin + b) x live) begin size ≡ after (windowed m begin size) b x live
  window_after b x live =
      ap (λ blocks. record { blocks = blocks; live = live; place = (windowed m begin size).place; layers = (windowed m begin size).layers })
      (ap (take size) (drop-set-add begin m.blocks b x) ∙ take-set-within size (drop begin m.blocks) b x)

  module _ (b p n : ℕ) (placed : Placing m begin size b n (Ok p)) where
    -- a refusal from below is that of a dark store, since the window has made the other tests
    refused : (f : Fault) → Refuses m p n f → (Fits n b (length (windowed m begin size).blocks)) × (m.live ≡ false) × (passed f b ≡ dark (windowed m begin size) b)
    refused f q =
        ⊎_elim
        (⊎_elim (λ wrong. absurd (wrong.0 placed.0.0)) (λ absent. absurd (omega arith)))
        (λ down. (placed.0, down.1, ap (λ g. passed g b) (down.2 ∙ ap (dark m) placed.1)))
        q

    -- where the store below is ready, so is the window
    ready : Ready m p n → Ready (windowed m begin size) b n
    ready q = (placed.0, q.1)

  -- a read of a block of the window
  pub window_reading : (b p : ℕ) (x y : List ℕ) (r : Result Unit Fault) → Placing m begin size b (length x) (Ok p) → Reading m p x r y
      → Reading (windowed m begin size) b x (lifted r b) y
  window_reading b p x y (Ok u) placed q =
      (ready b p (length x) placed q.0, q.1 ∙ ap (held m) placed.1 ∙ sym (window_held b placed.0.1))
  window_reading b p x y (Err f) placed q = (inr (refused b p (length x) placed f q.0), q.1)

  -- a change of one block below, seen through the window
  seen : (e : Medium) (b p : ℕ) (x : List ℕ) (live : Bool) → p ≡ begin + b → e ≡ after m p x live → windowed e begin size ≡ after (windowed m begin size) b x live
  seen e b p x live is left =
      ap (λ n. windowed n begin size) (left ∙ ap (λ k. after m k x live) is) ∙ window_after b x live

  -- a write of a block of the window
  pub window_writing : (e : Medium) (b p : ℕ) (x : List ℕ) (r : Result Unit Fault) → Placing m begin size b (length x) (Ok p) → Writing m p x r e
      → Writing (windowed m begin size) b x (lifted r b) (windowed e begin size)
  window_writing e b p x (Ok u) placed q = (ready b p (length x) placed q.0, seen e b p x true placed.1 q.1)
  window_writing e b p x (Err f) placed q =
      ⊎_elim
      (λ refusal. inl (inr (refused b p (length x) placed f refusal.0), ap (λ n. windowed n begin size) refusal.1))
      (λ down.
      inr (
        ready b p (length x) placed down.0,
        ap (λ g. passed g b) (down.1 ∙ ap (dark m) placed.1),
        (down.2.0, down.2.1, seen e b p down.2.0 false placed.1 down.2.2),
      ))
      q

  -- what a write makes of the store below: one write there
  pub window_below : (e : Medium) (b p : ℕ) (x : List ℕ) (r : Result Unit Fault) → Placing m begin size b (length x) (Ok p) → Writing m p x r e
      → Below m begin size b x (lifted r b) e
  window_below e b p x (Ok u) placed q = rw (sym placed.1) q
  window_below e b p x (Err f) placed q = inr (f, refl, rw (sym placed.1) q)
