-- Planned writes that were made, from a row of writes.
use Rattle.std.proofs.Common.{ℕ, suc, true, List, [], ◌∷◌, Ok, Err, Result, sym, refl, subst, inl, inr}
use Rattle.store.specs.Medium.{Medium, held, after}
use Rattle.board.specs.declared.answers.Supply.{Supply}
use Rattle.board.specs.declared.answers.Answer.{Answer}
use Rattle.board.specs.declared.answers.Answer.TheVariants as answer
use Rattle.board.specs.States.{Board, cold}
use Rattle.board.specs.Results.{outcome}
use Rattle.board.specs.Rows.{Row}
use Rattle.board.specs.Tests.{Written}
use Rattle.board.specs.Writes.{Put, Write, cut, done, Makes, all, next, stop}

-- a row tells the writes
pub made : (plan : List Put) (n : ℕ) (m : Medium) (r : Result Unit Supply) (e : Medium) → Row n plan m r e
    → (ws : List Write) × Makes n m plan ws r e
made [] n m r e p = (
  [],
  subst (λ (q : Result Unit Supply). Makes n m [] [] q e) (sym p.0)
      (subst (λ (d : Medium). Makes n m [] [] (Ok tt) d) (sym p.1) all),
)
made (p ∷ plan) n m r e (inl q) =
    let s : Supply = q.0 in
    let ws : List Write = cut p.block p.bytes (held e p.block) ∷ [] in (
      ws,
      subst (λ (x : Result Unit Supply). Makes n m (p ∷ plan) ws x e) (sym q.1)
          (subst (λ (k : ℕ). Makes n m (p ∷ plan) ws (Err (record { write = k; fault = s.fault })) e) (sym q.2) (stop q.3)),
    )
made (p ∷ plan) n m r e (inr q) =
    let rest = made plan (suc n) (after m p.block p.bytes true) r e q.1 in
    (done p.block p.bytes ∷ rest.0, next q.0 rest.1)

module _ (plan : List Put) (m : Medium) (said : Answer) (board : Board) (e : Medium) where
  -- all writes were done
  pub all_done : Row 1 plan m (Ok tt) e → (ws : List Write) × Written m plan said board (outcome ws said board e)
  all_done p = let q = made plan 1 m (Ok tt) e p in (q.0, (Ok tt, q.1, (refl, refl)))

  -- one was not
  pub not_done : (s : Supply) → Row 1 plan m (Err s) e
      → (ws : List Write) × Written m plan said board (outcome ws (answer.Supply s) cold e)
  not_done s p = let q = made plan 1 m (Err s) e p in (q.0, (Err s, q.1, (refl, refl)))
