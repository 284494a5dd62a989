-- A run as far as it has come.
use Rattle.std.proofs.Common.{◌≡◌, ℕ, suc, ◌+◌, ◌<◌, List, [], ◌∷◌, ◌++◌, length, get_or, take, Option, sym, refl, ap, ◌∙◌, subst, add-one, arith}
use Rattle.std.proofs.lemmas.List.{take_more, take_all, length_push}
use Rattle.layout.specs.declared.place.Place.{Place}
use Rattle.watch.specs.declared.cycle.Cycle.{Cycle}
use Rattle.watch.specs.declared.cycle.Verdict.{Verdict}
use Rattle.watch.specs.declared.cycle.Verdict.TheVariants as verdict
use Rattle.watch.specs.declared.cycle.Watch.{Watch}
use Rattle.watch.specs.declared.cycle.Watch.TheVariants.{Reset}
use Rattle.watch.specs.Rules.{Steps}
use Rattle.watch.specs.Runs.{Answered, state_after, counted, passes, Runs, Kept}
use Rattle.watch.proofs.Laws.{answered_more, state_more, kept}

-- the first i cycles led to this state, with n leading passes
abbrev pub Progress : Option Place → List Cycle → ℕ → Watch → ℕ → Type 0
Progress running cycles i state n =
    (answers : List (Verdict × Watch)) × Answered running Reset (take i cycles) answers
    × (state ≡ state_after Reset answers) × (n ≡ passes answers) × (length answers ≡ i)

-- the count of leading passes goes up by a pass where all passed so far; else it stays
counted_pass : (v : Verdict) (n m k : ℕ) → (n ≡ k → m ≡ suc n) → counted v n ≡ suc k → counted v m ≡ suc (counted v n)
counted_pass verdict.Pass n m k more all = ap suc (more (omega arith))
counted_pass verdict.Reset n m k more all = absurd (omega arith)

pub passes_pass : (answers : List (Verdict × Watch)) (a : Verdict × Watch) → a.0 ≡ verdict.Pass → passes answers ≡ length answers
    → passes (answers ++ (a ∷ [])) ≡ suc (passes answers)
passes_pass [] a e all = ap (λ (v : Verdict). counted v 0) e
passes_pass (x ∷ answers) a e all =
    counted_pass x.0 (passes answers) (passes (answers ++ (a ∷ []))) (length answers) (passes_pass answers a e) all

counted_ended : (v : Verdict) (n m k : ℕ) → ((n ≡ k → ⊥) → m ≡ n) → (counted v n ≡ suc k → ⊥) → counted v m ≡ counted v n
counted_ended verdict.Pass n m k more not = ap suc (more (λ e. not (ap suc e)))
counted_ended verdict.Reset n m k more not = refl

pub passes_ended : (answers : List (Verdict × Watch)) (a : Verdict × Watch) → (passes answers ≡ length answers → ⊥)
    → passes (answers ++ (a ∷ [])) ≡ passes answers
passes_ended [] a not = absurd (not refl)
passes_ended (x ∷ answers) a not =
    counted_ended x.0 (passes answers) (passes (answers ++ (a ∷ []))) (length answers) (passes_ended answers a) not

pub passes_reset : (answers : List (Verdict × Watch)) (a : Verdict × Watch) → a.0 ≡ verdict.Reset
    → passes (answers ++ (a ∷ [])) ≡ passes answers
passes_reset [] a e = ap (λ (v : Verdict). counted v 0) e
passes_reset (x ∷ answers) a e = ap (counted x.0) (passes_reset answers a e)

-- one cycle more
progress_more : (running : Option Place) (cycles : List Cycle) (i : ℕ) (state : Watch) (n m : ℕ) (d : Cycle) (a : Verdict × Watch)
    → i < length cycles → (p : Progress running cycles i state n) → Steps running state (get_or cycles i d) a
    → m ≡ passes (p.0 ++ (a ∷ [])) → Progress running cycles (i + 1) a.1 m
progress_more running cycles i state n m d a lt p s count =
    let more : take (i + 1) cycles ≡ take i cycles ++ (get_or cycles i d ∷ []) = take_more cycles i d lt in
    let step : Steps running (state_after Reset p.0) (get_or cycles i d) a = subst (λ (q : Watch). Steps running q (get_or cycles i d) a) p.2 s in (
      p.0 ++ (a ∷ []),
      subst (λ (l : List Cycle). Answered running Reset l (p.0 ++ (a ∷ []))) (sym more) (answered_more running Reset (take i cycles) p.0 (get_or cycles i d) a p.1 step),
      sym (state_more Reset p.0 a),
      count,
      length_push p.0 a ∙ ap (λ (k : ℕ). k + 1) p.4,
    )

pub progress_pass : (running : Option Place) (cycles : List Cycle) (i : ℕ) (state : Watch) (n m : ℕ) (d : Cycle) (a : Verdict × Watch)
    → i < length cycles → Progress running cycles i state n → Steps running state (get_or cycles i d) a
    → a.0 ≡ verdict.Pass → n ≡ i → m ≡ n + 1 → Progress running cycles (i + 1) a.1 m
progress_pass running cycles i state n m d a lt p s e all count =
    progress_more running cycles i state n m d a lt p s
    (count ∙ add-one n ∙ ap suc p.3 ∙ sym (passes_pass p.0 a e (sym p.3 ∙ all ∙ sym p.4)))

pub progress_ended : (running : Option Place) (cycles : List Cycle) (i : ℕ) (state : Watch) (n m : ℕ) (d : Cycle) (a : Verdict × Watch)
    → i < length cycles → Progress running cycles i state n → Steps running state (get_or cycles i d) a
    → (n ≡ i → ⊥) → m ≡ n → Progress running cycles (i + 1) a.1 m
progress_ended running cycles i state n m d a lt p s not count =
    progress_more running cycles i state n m d a lt p s (count ∙ p.3 ∙ sym (passes_ended p.0 a (λ e. not (p.3 ∙ e ∙ p.4))))

not_pass : (v : Verdict) → (v ≡ verdict.Pass → ⊥) → v ≡ verdict.Reset
not_pass verdict.Pass not = absurd (not refl)
not_pass verdict.Reset not = refl

pub progress_reset : (running : Option Place) (cycles : List Cycle) (i : ℕ) (state : Watch) (n m : ℕ) (d : Cycle) (a : Verdict × Watch)
    → i < length cycles → Progress running cycles i state n → Steps running state (get_or cycles i d) a
    → (a.0 ≡ verdict.Pass → ⊥) → m ≡ n → Progress running cycles (i + 1) a.1 m
progress_reset running cycles i state n m d a lt p s not count =
    progress_more running cycles i state n m d a lt p s (count ∙ p.3 ∙ sym (passes_reset p.0 a (not_pass a.0 not)))

-- the end of a run
pub run_ends : (running : Option Place) (cycles : List Cycle) (i : ℕ) (state : Watch) (n : ℕ) → length cycles ≡ i
    → Progress running cycles i state n → Runs running cycles (state, n)
run_ends running cycles i state n e p =
    (p.0, subst (λ (l : List Cycle). Answered running Reset l p.0) (take_all i cycles (omega arith)) p.1, p.2, p.3)

pub run_kept : (running : Option Place) (cycles : List Cycle) (r : Watch × ℕ) → Runs running cycles r → Kept running (take r.1 cycles)
run_kept running cycles r h =
    subst (λ (n : ℕ). Kept running (take n cycles)) (sym h.3) (kept running cycles h.0 h.1)
