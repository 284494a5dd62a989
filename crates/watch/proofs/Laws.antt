-- What the rules keep over a run.
use Rattle.std.proofs.Common.{◌≡◌, ℕ, false, ◌⊎◌, List, [], ◌∷◌, ◌++◌, take, Some, None, IsSome, Option, refl, inl, inr, ⊎_elim, arith}
use Rattle.std.specs.List.{AllByRecursion}
use Rattle.std.proofs.lemmas.Bool.{cases_lt, cases_eq, cases_Bool}
use Rattle.layout.specs.Address.{InTcr, ermin, ermax}
use Rattle.layout.specs.declared.place.Place.{Place}
use Rattle.layout.specs.Running.{Executable, Guarded}
use Rattle.watch.specs.declared.cycle.Cycle.{Cycle}
use Rattle.watch.specs.declared.cycle.Verdict.{Verdict}
use Rattle.watch.specs.declared.cycle.Verdict.TheVariants as verdict
use Rattle.watch.specs.declared.cycle.Watch.{Watch}
use Rattle.watch.specs.declared.cycle.Watch.TheVariants.{Outside, Inside, Last, Reset}
use Rattle.watch.specs.Rules.{Out, Writes, Broken, Stopped, Follows, Judges, Steps}
use Rattle.watch.specs.Runs.{Answered, state_after, counted, passes, First, EachNext, Kept}

-- a cycle that passes breaks no rule, in any state
pub unbroken : (running : Option Place) (state : Watch) (c : Cycle) → (Stopped running state c → ⊥) → Broken running state c → ⊥
unbroken running Outside c not b = not b
unbroken running Inside c not b = not b
unbroken running Last c not b = not b
unbroken running Reset c not (inl w) = not (inl (λ e. omega arith))
unbroken running Reset c not (inr (inl w)) = not (inl (λ e. omega arith))
unbroken running Reset c not (inr (inr (inl w))) = not (inl (λ e. omega arith))
unbroken running Reset c not (inr (inr (inr (inl w)))) = not (inl (λ e. omega arith))
unbroken running Reset c not (inr (inr (inr (inr w)))) = not (inr w)

-- what is not there is none
none_of : (o : Option ℕ) → (IsSome o → ⊥) → o ≡ None
none_of (Some x) absent = absurd (absent refl)
none_of None absent = refl

-- one cycle
pub unwritten_one : (running : Option Place) (state : Watch) (c : Cycle) → (Broken running state c → ⊥)
    → Out c → (address : ℕ) → Writes c address → Guarded running address → ⊥
unwritten_one running state c not out address w g = not (inl (out, (address, w, g)))

pub quiet_one : (running : Option Place) (state : Watch) (c : Cycle) → (Broken running state c → ⊥)
    → InTcr c.pc → (c.interrupt ≡ false) × (c.dma_at ≡ None)
quiet_one running state c not in' = (
  ⊎_elim (λ t. absurd (not (inr (inr (inr (inr (in', inl t))))))) (λ f. f) (cases_Bool c.interrupt),
  none_of c.dma_at (λ t. not (inr (inr (inr (inr (in', inr t)))))),
)

-- an address is executable or not
pub executable_or_not : (running : Option Place) (address : ℕ) → Executable running address ⊎ (Executable running address → ⊥)
executable_or_not (Some p) address =
    ⊎_elim
    (λ below. inr (λ e. omega arith))
    (λ from. ⊎_elim (λ past. inr (λ e. omega arith)) (λ to. inl (from, to)) (cases_lt (ermax p.first p.len) address))
    (cases_lt address (ermin p.first))
executable_or_not None address = inr (λ e. e)

pub executed_one : (running : Option Place) (state : Watch) (c : Cycle) → (Broken running state c → ⊥)
    → InTcr c.pc ⊎ Executable running c.pc
executed_one running state c not =
    ⊎_elim (λ lt. inl lt)
    (λ out. ⊎_elim (λ e. inr e) (λ ne. absurd (not (inr (inl (out, ne))))) (executable_or_not running c.pc))
    (cases_lt c.pc 2048)

-- two cycles in a row: the state between them tells where the first was
pub entered_one : (running : Option Place) (state : Watch) (a b : Cycle) → Follows a.pc state → (Broken running state b → ⊥)
    → Out a → InTcr b.pc → b.pc ≡ 0
entered_one running Outside a b f not out in' =
    ⊎_elim (λ lt. omega arith) (λ ge. absurd (not (inr (inr (inl (refl, ge, omega arith)))))) (cases_lt b.pc 1)
entered_one running Inside a b f not out in' = omega arith
entered_one running Last a b f not out in' = omega arith
entered_one running Reset a b f not out in' = absurd f

pub left_one : (running : Option Place) (state : Watch) (a b : Cycle) → Follows a.pc state → (Broken running state b → ⊥)
    → InTcr a.pc → Out b → a.pc ≡ 2047
left_one running Outside a b f not in' out = omega arith
left_one running Inside a b f not in' out = absurd (not (inr (inr (inr (inl (refl, out))))))
left_one running Last a b f not in' out = f
left_one running Reset a b f not in' out = absurd f

-- whole runs: what each passing cycle has, all leading passes have
all_step : (running : Option Place) (P : Cycle → Type 0) (c : Cycle) (n : ℕ) (cycles : List Cycle) (state : Watch) (v : Verdict) (next : Watch)
    → ((q : Watch) → (Broken running q c → ⊥) → P c) → Judges running state c v next
    → AllByRecursion P (take n cycles) → AllByRecursion P (take (counted v n) (c ∷ cycles))
all_step running P c n cycles state verdict.Pass next one j rest = (one state (unbroken running state c j.0), rest)
all_step running P c n cycles state verdict.Reset next one j rest = tt

pub all_passed : (running : Option Place) (P : Cycle → Type 0) → ((q : Watch) (c : Cycle) → (Broken running q c → ⊥) → P c)
    → (state : Watch) (cycles : List Cycle) (answers : List (Verdict × Watch)) → Answered running state cycles answers
    → AllByRecursion P (take (passes answers) cycles)
all_passed running P one state [] [] h = tt
all_passed running P one state [] (a ∷ answers) h = absurd h
all_passed running P one state (c ∷ cycles) [] h = absurd h
all_passed running P one state (c ∷ cycles) (a ∷ answers) h =
    all_step running P c (passes answers) cycles state a.0 a.1 (λ q not. one q c not) h.0
    (all_passed running P one a.1 cycles answers h.1)

-- and what each two passing cycles in a row have
next_step : (running : Option Place) (R : Cycle → Cycle → Type 0) (prev c : Cycle) (n : ℕ) (cycles : List Cycle) (state : Watch) (v : Verdict) (next : Watch)
    → ((Broken running state c → ⊥) → R prev c) → Judges running state c v next
    → (Follows c.pc next → EachNext R (c ∷ take n cycles)) → EachNext R (prev ∷ take (counted v n) (c ∷ cycles))
next_step running R prev c n cycles state verdict.Pass next one j rest = (one (unbroken running state c j.0), rest j.1)
next_step running R prev c n cycles state verdict.Reset next one j rest = (tt, tt)

pub next_passed : (running : Option Place) (R : Cycle → Cycle → Type 0)
    → ((q : Watch) (a b : Cycle) → Follows a.pc q → (Broken running q b → ⊥) → R a b)
    → (state : Watch) (prev : Cycle) → Follows prev.pc state → (cycles : List Cycle) (answers : List (Verdict × Watch))
    → Answered running state cycles answers → EachNext R (prev ∷ take (passes answers) cycles)
next_passed running R one state prev f [] [] h = (tt, tt)
next_passed running R one state prev f [] (a ∷ answers) h = absurd h
next_passed running R one state prev f (c ∷ cycles) [] h = absurd h
next_passed running R one state prev f (c ∷ cycles) (a ∷ answers) h =
    next_step running R prev c (passes answers) cycles state a.0 a.1 (λ not. one state prev c f not) h.0
    (λ g. next_passed running R one a.1 c g cycles answers h.1)

begin_step : (running : Option Place) (R : Cycle → Cycle → Type 0) (c : Cycle) (n : ℕ) (cycles : List Cycle) (v : Verdict) (next : Watch)
    → Judges running Reset c v next → (Follows c.pc next → EachNext R (c ∷ take n cycles)) → EachNext R (take (counted v n) (c ∷ cycles))
begin_step running R c n cycles verdict.Pass next j rest = rest j.1
begin_step running R c n cycles verdict.Reset next j rest = tt

pub next_from_reset : (running : Option Place) (R : Cycle → Cycle → Type 0)
    → ((q : Watch) (a b : Cycle) → Follows a.pc q → (Broken running q b → ⊥) → R a b)
    → (cycles : List Cycle) (answers : List (Verdict × Watch))
    → Answered running Reset cycles answers → EachNext R (take (passes answers) cycles)
next_from_reset running R one [] [] h = tt
next_from_reset running R one [] (a ∷ answers) h = absurd h
next_from_reset running R one (c ∷ cycles) [] h = absurd h
next_from_reset running R one (c ∷ cycles) (a ∷ answers) h =
    begin_step running R c (passes answers) cycles a.0 a.1 h.0 (λ g. next_passed running R one a.1 c g cycles answers h.1)

-- a run begins at 0
first_step : (running : Option Place) (c : Cycle) (n : ℕ) (cycles : List Cycle) (v : Verdict) (next : Watch)
    → Judges running Reset c v next → First (λ x. x.pc ≡ 0) (take (counted v n) (c ∷ cycles))
first_step running c n cycles verdict.Pass next j =
    ⊎_elim (λ e. e) (λ ne. absurd (j.0 (inl ne))) (cases_eq c.pc 0)
first_step running c n cycles verdict.Reset next j = tt

pub first_passed : (running : Option Place) (cycles : List Cycle) (answers : List (Verdict × Watch))
    → Answered running Reset cycles answers → First (λ x. x.pc ≡ 0) (take (passes answers) cycles)
first_passed running [] [] h = tt
first_passed running [] (a ∷ answers) h = absurd h
first_passed running (c ∷ cycles) [] h = absurd h
first_passed running (c ∷ cycles) (a ∷ answers) h = first_step running c (passes answers) cycles a.0 a.1 h.0

-- so every run from reset on keeps what the watch is for
pub kept : (running : Option Place) (cycles : List Cycle) (answers : List (Verdict × Watch))
    → Answered running Reset cycles answers → Kept running (take (passes answers) cycles)
kept running cycles answers h = record {
  unwritten = all_passed running (λ c. Out c → (address : ℕ) → Writes c address → Guarded running address → ⊥) (unwritten_one running) Reset cycles answers h;
  begun = first_passed running cycles answers h;
  entered = next_from_reset running (λ a b. Out a → InTcr b.pc → b.pc ≡ 0) (entered_one running) cycles answers h;
  left = next_from_reset running (λ a b. InTcr a.pc → Out b → a.pc ≡ 2047) (left_one running) cycles answers h;
  quiet = all_passed running (λ c. InTcr c.pc → (c.interrupt ≡ false) × (c.dma_at ≡ None)) (quiet_one running) Reset cycles answers h;
  executed = all_passed running (λ c. InTcr c.pc ⊎ Executable running c.pc) (executed_one running) Reset cycles answers h;
}

-- one cycle more at the end of a run
pub answered_more : (running : Option Place) (state : Watch) (cycles : List Cycle) (answers : List (Verdict × Watch)) (c : Cycle) (a : Verdict × Watch)
    → Answered running state cycles answers → Steps running (state_after state answers) c a → Answered running state (cycles ++ (c ∷ [])) (answers ++ (a ∷ []))
answered_more running state [] [] c a h s = (s, tt)
answered_more running state [] (x ∷ answers) c a h s = absurd h
answered_more running state (y ∷ cycles) [] c a h s = absurd h
answered_more running state (y ∷ cycles) (x ∷ answers) c a h s = (h.0, answered_more running x.1 cycles answers c a h.1 s)

pub state_more : (state : Watch) (answers : List (Verdict × Watch)) (a : Verdict × Watch) → state_after state (answers ++ (a ∷ [])) ≡ a.1
state_more state [] a = refl
state_more state (x ∷ answers) a = state_more x.1 answers a
