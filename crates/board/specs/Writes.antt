-- The writes of a call: those it plans, and what becomes of them.
use Rattle.std.specs.Prelude.{ℕ, suc, Bool, true, false, List, [], ◌∷◌, Ok, Err, Result, slice_set}
use Rattle.store.specs.declared.fault.Fault.{Fault}
use Rattle.store.specs.Calls.{Writing}
use Rattle.store.specs.Medium.{Medium, held, after}
use Rattle.board.specs.declared.answers.Supply.{Supply}

-- A write that is planned: these bytes into this block.
pub record Put : Type 0 where
  pub block : ℕ
  pub bytes : List ℕ

abbrev pub put : ℕ → List ℕ → Put
put b x = record { block = b; bytes = x }

-- What became of a write of bytes into a block: it was done; or it was cut, and these bytes are then in the block.
pub data Write : Type 0 where
  done : ℕ → List ℕ → Write
  cut : ℕ → List ℕ → List ℕ → Write

-- The planned writes are made in the store m, numbered from n on: each is done, up to the last, or up to one that the
-- store does not do. No write follows that one, and its number and the store's fault are told.
pub data Makes : ℕ → Medium → List Put → List Write → Result Unit Supply → Medium → Type 0 where
  all : {n : ℕ} {m : Medium} → Makes n m [] [] (Ok tt) m
  next : {n : ℕ} {m : Medium} {p : Put} {plan : List Put} {ws : List Write} {r : Result Unit Supply} {e : Medium} →
      Writing m p.block p.bytes (Ok tt) (after m p.block p.bytes true) →
      Makes (suc n) (after m p.block p.bytes true) plan ws r e →
      Makes n m (p ∷ plan) (done p.block p.bytes ∷ ws) r e
  stop : {n : ℕ} {m : Medium} {p : Put} {plan : List Put} {f : Fault} {e : Medium} →
      Writing m p.block p.bytes (Err f) e →
      Makes n m (p ∷ plan) (cut p.block p.bytes (held e p.block) ∷ []) (Err (record { write = n; fault = f })) e

-- The blocks after these writes; whether one of them was cut.
abbrev pub left : Write → List (List ℕ) → List (List ℕ)
left (done b x) blocks = slice_set blocks b x
left (cut b x y) blocks = slice_set blocks b y

abbrev pub written : List Write → List (List ℕ) → List (List ℕ)
written [] blocks = blocks
written (w ∷ ws) blocks = written ws (left w blocks)

abbrev pub was_cut : List Write → Bool
was_cut [] = false
was_cut (done b x ∷ ws) = was_cut ws
was_cut (cut b x y ∷ ws) = true
