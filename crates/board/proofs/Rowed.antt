-- Rows of writes, joined.
use Rattle.std.proofs.Common.{◌≡◌, ℕ, suc, ◌+◌, true, List, [], ◌∷◌, ◌++◌, length, Ok, Err, Result, sym, ◌∙◌, subst, inl, inr, add-zero, arith}
use Rattle.store.specs.Medium.{Medium, after}
use Rattle.board.specs.declared.answers.Supply.{Supply}
use Rattle.board.specs.Rows.{Row}
use Rattle.board.specs.Writes.{Put}

pub differ : {A E : Type 0} (u : A) (x : E) → ◌≡◌ {A = Result A E} (Ok u) (Err x) → ⊥
differ u x h = let z : ◌≡◌ {A = ℕ} 0 1 = cc in omega arith

-- a row done, and another row after it
pub more : (ps qs : List Put) (n k : ℕ) (m d : Medium) (r : Result Unit Supply) (e : Medium) → k ≡ n + length ps
    → Row n ps m (Ok tt) d → Row k qs d r e → Row n (ps ++ qs) m r e
more [] qs n k m d r e at p q =
    subst (λ (x : Medium). Row n qs x r e) p.1 (subst (λ (i : ℕ). Row i qs d r e) (at ∙ add-zero n) q)
more (a ∷ ps) qs n k m d r e at (inl p) q = absurd (differ tt p.0 p.1)
more (a ∷ ps) qs n k m d r e at (inr p) q =
    inr (p.0, more ps qs (suc n) k (after m a.block a.bytes true) d r e (omega arith) p.1 q)

-- a row that a store did not do
pub stopped : (ps qs : List Put) (n : ℕ) (m : Medium) (s : Supply) (e : Medium) → Row n ps m (Err s) e → Row n (ps ++ qs) m (Err s) e
stopped [] qs n m s e p = absurd (differ tt s (sym p.0))
stopped (a ∷ ps) qs n m s e (inl p) = inl p
stopped (a ∷ ps) qs n m s e (inr p) = inr (p.0, stopped ps qs (suc n) (after m a.block a.bytes true) s e p.1)
