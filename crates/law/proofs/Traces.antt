-- What becomes of the writes that a call plans.
use Rattle.std.proofs.Common.{◌≡◌, ℕ, suc, ◌<◌, Bool, true, false, cond, List, [], ◌∷◌, ◌++◌, length, get_or, set, Ok, Err, Result, sym, refl, ap, ◌∙◌, subst, inl, inr, arith}
use Rattle.std.specs.List.{AllByRecursion}
use Rattle.std.proofs.lemmas.List.{length-set, get_or-set_same, set-get_or}
use Rattle.std.proofs.ByRecursion.{All-set, All-get_or}
use Rattle.std.proofs.lemmas.Bool.{true≢false, cond-true, cond-false}
use Rattle.store.specs.Medium.{Medium, held, after, dark}
use Rattle.store.specs.Calls.{Writing}
use Rattle.store.specs.declared.fault.Fault.{Fault}
use Rattle.board.specs.States.{Board, cold}
use Rattle.board.specs.declared.answers.Answer.{Answer}
use Rattle.board.specs.declared.answers.Answer.TheVariants as answer
use Rattle.board.specs.declared.answers.Supply.{Supply}
use Rattle.board.specs.Writes.{Put, Write, done, cut, Makes, all, next, stop, written, was_cut}
use Rattle.board.specs.Tests.{Outcome, Ended, Written}
use Rattle.law.proofs.Stored.{Sized}

-- the planned writes are done, up to the last, or up to one that is cut and leaves 512 bytes
pub data Performs : List Put → List Write → Type 0 where
  all_done : Performs [] []
  done_next : {p : Put} {plan : List Put} {ws : List Write} → Performs plan ws → Performs (p ∷ plan) (done p.block p.bytes ∷ ws)
  cut_here : {p : Put} {plan : List Put} (y : List ℕ) → length y ≡ 512 → Performs (p ∷ plan) (cut p.block p.bytes y ∷ [])

-- a block that was not written has 512 bytes still, the old ones or those that a cut left
not_done : (m : Medium) (b : ℕ) (x : List ℕ) (f : Fault) (e : Medium) → Writing m b x (Err f) e → Sized m.blocks → b < length m.blocks →
    (length (held e b) ≡ 512) × (e.blocks ≡ set m.blocks b (held e b))
not_done m b x f e (inl refused) s lt =
    subst (λ (t : Medium). (length (held t b) ≡ 512) × (t.blocks ≡ set m.blocks b (held t b))) (sym refused.1)
    (All-get_or (λ (c : List ℕ). length c ≡ 512) m.blocks b [] lt s, sym (set-get_or m.blocks b []))
not_done m b x f e (inr (ready, dark-is, (y, long, e-is))) s lt =
    let here : get_or (set m.blocks b y) b [] ≡ y = get_or-set_same m.blocks b y [] lt in
    subst (λ (t : Medium). (length (held t b) ≡ 512) × (t.blocks ≡ set m.blocks b (held t b))) (sym e-is)
    (ap length here ∙ long, ap (set m.blocks b) (sym here))

-- whether one was cut is told
abbrev Told : Result Unit Supply → Bool → Type 0
Told (Ok _) t = t ≡ false
Told (Err _) t = t ≡ true

record Trace (m : Medium) (plan : List Put) (ws : List Write) (r : Result Unit Supply) (e : Medium) : Type 0 where
  performs : Performs plan ws
  blocks_are : e.blocks ≡ written ws m.blocks
  told : Told r (was_cut ws)
  live : m.live ≡ true → was_cut ws ≡ false → e.live ≡ true

-- what comes of writes into blocks of the store
trace : (n count : ℕ) (m : Medium) (plan : List Put) (ws : List Write) (r : Result Unit Supply) (e : Medium) → Makes n m plan ws r e →
    length m.blocks ≡ count → Sized m.blocks → AllByRecursion (λ (p : Put). p.block < count) plan → Trace m plan ws r e
trace n count m plan ws r e all size s a = record { performs = all_done; blocks_are = refl; told = refl; live = λ on whole. on }
trace n count m plan ws r e (next {p = p} {plan = plan'} {ws = ws'} w ms) size s a =
    let t = trace (suc n) count (after m p.block p.bytes true) plan' ws' r e ms (length-set m.blocks p.block p.bytes ∙ size)
    (All-set (λ (c : List ℕ). length c ≡ 512) m.blocks p.block p.bytes w.0.0.0 s) a.1 in
    record { performs = done_next t.performs; blocks_are = t.blocks_are; told = t.told; live = λ on whole. t.live refl whole }
trace n count m plan ws r e (stop {p = p} {f = f} w) size s a =
    let t = not_done m p.block p.bytes f e w s (omega (arith, a.0)) in
    record { performs = cut_here (held e p.block) t.0; blocks_are = t.1; told = refl; live = λ on whole. absurd (true≢false whole) }

-- a call wrote: what it left, and answered
pub record Wrote (m : Medium) (plan : List Put) (said : Answer) (board : Board) (o : Outcome) : Type 0 where
  pub supply : Supply
  pub performs : Performs plan o.writes
  pub blocks_are : o.store.blocks ≡ written o.writes m.blocks
  pub answer_is : o.answer ≡ cond (was_cut o.writes) (answer.Supply supply) said
  pub board_is : o.board ≡ cond (was_cut o.writes) cold board
  pub live : m.live ≡ true → was_cut o.writes ≡ false → o.store.live ≡ true

-- what comes of a call that writes
pub wrote : (m : Medium) (plan : List Put) (said : Answer) (board : Board) (o : Outcome) → Written m plan said board o →
    Sized m.blocks → AllByRecursion (λ (p : Put). p.block < length m.blocks) plan → Wrote m plan said board o
wrote m plan said board o (r, ms, end) s a = go r (trace 1 (length m.blocks) m plan o.writes r o.store ms refl s a) end
  where
    go : (r : Result Unit Supply) → Trace m plan o.writes r o.store → Ended r said board o → Wrote m plan said board o
    go (Ok _) t end = record {
      supply = record { write = 0; fault = dark m 0 };
      performs = t.performs;
      blocks_are = t.blocks_are;
      answer_is = end.0 ∙ sym (cond-false (was_cut o.writes) _ said t.told);
      board_is = end.1 ∙ sym (cond-false (was_cut o.writes) cold board t.told);
      live = t.live;
    }
    go (Err f) t end = record {
      supply = f;
      performs = t.performs;
      blocks_are = t.blocks_are;
      answer_is = end.0 ∙ sym (cond-true (was_cut o.writes) (answer.Supply f) said t.told);
      board_is = end.1 ∙ sym (cond-true (was_cut o.writes) cold board t.told);
      live = t.live;
    }

-- the blocks after all of a plan
abbrev pub applied : List Put → List (List ℕ) → List (List ℕ)
applied [] bs = bs
applied (p ∷ plan) bs = applied plan (set bs p.block p.bytes)

-- one plan after another
pub applied-++ : (ps qs : List Put) (bs : List (List ℕ)) → applied (ps ++ qs) bs ≡ applied qs (applied ps bs)
applied-++ [] qs bs = refl
applied-++ (p ∷ ps) qs bs = applied-++ ps qs (set bs p.block p.bytes)

-- where none was cut the writes leave that
pub applied-whole : (plan : List Put) (ws : List Write) (bs : List (List ℕ)) → Performs plan ws → was_cut ws ≡ false → written ws bs ≡ applied plan bs
applied-whole plan ws bs all_done whole = refl
applied-whole plan ws bs (done_next {p = p} {plan = plan'} {ws = ws'} ps) whole = applied-whole plan' ws' (set bs p.block p.bytes) ps whole
applied-whole plan ws bs (cut_here y long) whole = absurd (true≢false whole)

-- a live store does all that is planned with right buffers and blocks
abbrev pub Fitting : ℕ → Put → Type 0
Fitting count p = (length p.bytes ≡ 512) × (p.block < count)

-- all writes of a plan, done
abbrev pub done_all : List Put → List Write
done_all [] = []
done_all (p ∷ plan) = done p.block p.bytes ∷ done_all plan

-- the store after them
abbrev pub store_after : List Put → Medium → Medium
store_after [] m = m
store_after (p ∷ plan) m = store_after plan (after m p.block p.bytes true)

-- what a call whose writes are all done leaves
abbrev pub whole : Medium → List Put → Answer → Board → Outcome
whole m plan said board = record { writes = done_all plan; answer = said; board = board; store = store_after plan m }

-- they can all be made
makes_all : (n count : ℕ) (m : Medium) (plan : List Put) → m.live ≡ true → length m.blocks ≡ count → AllByRecursion (Fitting count) plan →
    Makes n m plan (done_all plan) (Ok tt) (store_after plan m)
makes_all n count m [] on size fits = all
makes_all n count m (p ∷ plan) on size fits =
    next (((fits.0.0, omega (arith, fits.0.1)), on), refl)
    (makes_all (suc n) count (after m p.block p.bytes true) plan refl (length-set m.blocks p.block p.bytes ∙ size) fits.1)

-- so a call can make them
pub whole-written : (m : Medium) (plan : List Put) (said : Answer) (board : Board) → m.live ≡ true → AllByRecursion (Fitting (length m.blocks)) plan →
    Written m plan said board (whole m plan said board)
whole-written m plan said board on fits = (Ok tt, makes_all 1 (length m.blocks) m plan on refl fits, (refl, refl))
