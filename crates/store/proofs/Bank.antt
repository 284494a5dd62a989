-- What a store in a memory does by its plan is what a store may do, for plans of any kind.
use Rattle.std.proofs.Common.{◌≡◌, ℕ, Bool, true, false, List, length, Some, None, Ok, Err, Option, Result, is_none, true≢false, sym, refl, ap, ◌∙◌, inl, inr, ⊎_elim}
use Rattle.store.specs.declared.fault.Cause.TheVariants.{Dark}
use Rattle.store.specs.declared.fault.Fault.{Fault}
use Rattle.store.specs.Bank.{Bank, meaning, Cutting, Ending, Spares, Tears, Storing, Tests}
use Rattle.store.specs.Calls.{Writing}
use Rattle.store.specs.Faults.{arisen}
use Rattle.store.specs.Medium.{after}
use Rattle.store.specs.Memory.{block_at, laid, remainder, lowest}
use Rattle.store.proofs.Blocks.{length-block, remainder_laid, lowest_laid}
use Rattle.store.proofs.Lowest.{ready, refused}

-- a plan that is left spares the write
pub spared : {Plan : Type 0} (k : Cutting Plan) (plan : Plan) (given rest : Option Plan) (old new left : List ℕ) → given ≡ Some plan → is_none rest ≡ false
    → Ending k plan old new rest left → Spares k given old new rest × (left ≡ new)
spared k plan given None old new left is none ends = absurd (true≢false none)
spared k plan given (Some rest) old new left is none ends = rw is ends

-- and where none is left, it cut the write
pub torn : {Plan : Type 0} (k : Cutting Plan) (plan : Plan) (given rest : Option Plan) (old new left : List ℕ) → given ≡ Some plan → is_none rest ≡ true
    → Ending k plan old new rest left → Tears k given old new left × (rest ≡ None)
torn k plan given None old new left is none ends = (rw is ends, refl)
torn k plan given (Some rest) old new left is none ends = absurd (true≢false (sym none))

-- what a write owes
pub record Owed {Plan : Type 0} (k : Cutting Plan) (s : Bank Plan) (b : ℕ) (x : List ℕ) (r : Result Unit Fault) (t : Bank Plan) : Type 0 where
  pub written : Writing (meaning s) b x r (meaning t)
  pub own : Storing k s b x r t
  pub remainder : remainder t.memory ≡ remainder s.memory

module _ {Plan : Type 0} (k : Cutting Plan) (s : Bank Plan) (b : ℕ) (x : List ℕ) where
  -- a write that is refused
  pub owed-refused : (f : Fault) → Tests s b x (Err f) → Owed k s b x (Err f) s
  owed-refused f tests = record {
    written = inl (refused s.memory s.live b (length x) f tests, refl);
    own = inl (tests, refl);
    remainder = refl;
  }

  module _ (t : Bank Plan) (y : List ℕ) (tests : Tests s b x (Ok tt)) (long : length y ≡ 512) (left : t.memory ≡ laid s.memory b y) where
    -- the meaning after a block is laid over
    laid_over : (live : Bool) → t.live ≡ live → meaning t ≡ after (meaning s) b y live
    laid_over live mark =
        let is : meaning t ≡ lowest (laid s.memory b y) live = cc in
        is ∙ lowest_laid s.memory b tests.0.1 y long s.live live

    -- the bytes past the last whole block are never written
    remainder_kept : remainder t.memory ≡ remainder s.memory
    remainder_kept = ap remainder left ∙ remainder_laid s.memory b tests.0.1 y long

    -- a write that is done
    pub owed-done : y ≡ x → Spares k s.plan (block_at s.memory b) x t.plan → t.live ≡ true → Owed k s b x (Ok tt) t
    owed-done is spares live = record {
      written = (ready s.memory s.live b (length x) tests, laid_over true live ∙ ap (λ z. after (meaning s) b z true) is);
      own = (tests, left ∙ ap (laid s.memory b) is, spares, live);
      remainder = remainder_kept;
    }

    -- a write that is cut
    pub owed-cut : Tears k s.plan (block_at s.memory b) x y → t.live ≡ false → t.plan ≡ None → Owed k s b x (Err (arisen Dark b)) t
    owed-cut tears live plan = record {
      written = inr (ready s.memory s.live b (length x) tests, refl, (y, long, laid_over false live));
      own = inr (tests, refl, (y, tears, left), live, plan);
      remainder = remainder_kept;
    }

-- what `Storing` says is enough: where each cut leaves 512 bytes, it has the store's meaning and the remainder in it
module _ {Plan : Type 0} (k : Cutting Plan)
    (sized : (plan : Plan) (old new torn : List ℕ) → length old ≡ 512 → length new ≡ 512 → k.Cuts plan old new torn → length torn ≡ 512) where
  -- what a cut leaves is a block
  long : (plan : Option Plan) (old new torn : List ℕ) → length old ≡ 512 → length new ≡ 512 → Tears k plan old new torn → length torn ≡ 512
  long None old new torn o n q = absurd q
  long (Some plan) old new torn o n q = sized plan old new torn o n q

  module _ (s t : Bank Plan) (b : ℕ) (x : List ℕ) where
    -- in a store, too
    torn_long : (torn : List ℕ) → Tests s b x (Ok tt) → Tears k s.plan (block_at s.memory b) x torn → length torn ≡ 512
    torn_long torn q tears = long s.plan (block_at s.memory b) x torn (length-block s.memory b q.0.1) q.0.0 tears

    -- a write that is cut, as `Storing` tells of it
    cut : (torn : List ℕ) → Tests s b x (Ok tt) → Tears k s.plan (block_at s.memory b) x torn → t.memory ≡ laid s.memory b torn → t.live ≡ false
        → t.plan ≡ None → Owed k s b x (Err (arisen Dark b)) t
    cut torn tests tears left live plan = owed-cut k s b x t torn tests (torn_long torn tests tears) left tears live plan

    -- what it answers and leaves is what a store may answer and leave
    pub writing : (r : Result Unit Fault) → Storing k s b x r t → Writing (meaning s) b x r (meaning t)
    writing (Ok u) q = (owed-done k s b x t x q.0 q.0.0.0 q.1 refl q.2 q.3).written
    writing (Err f) q =
        ⊎_elim
        (λ refusal. inl (refused s.memory s.live b (length x) f refusal.0, ap meaning refusal.1))
        (λ dark. rw dark.1 (cut dark.2.0 dark.0 dark.2.1 dark.2.2 dark.3 dark.4).written)
        q

    -- the bytes past the last whole block are never written
    pub same_remainder : (r : Result Unit Fault) → Storing k s b x r t → remainder t.memory ≡ remainder s.memory
    same_remainder (Ok u) q = (owed-done k s b x t x q.0 q.0.0.0 q.1 refl q.2 q.3).remainder
    same_remainder (Err f) q =
        ⊎_elim
        (λ refusal. ap (λ u. remainder u.memory) refusal.1)
        (λ dark. (cut dark.2.0 dark.0 dark.2.1 dark.2.2 dark.3 dark.4).remainder)
        q
