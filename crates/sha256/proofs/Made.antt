-- Arrays made by calls that leave the closure as it was: at each index, and at each element of another array.
use Rattle.std.proofs.Common.{◌≡◌, ℕ, zero, suc, ◌+◌, ◌<◌, ◌≤◌, List, map, length, get_or, sym, subst, ap, ◌∙◌, ⊎_elim, arith}
use Rattle.std.proofs.lemmas.Bool.{cases_eq}
use Rattle.std.proofs.lemmas.List.{same_lists, get_or-map, length-map}
use Rattle.std.proofs.lemmas.List.FromFn.{fill_by_all}
use Rattle.std.specs.List.{range_with_len}
use Rattle.std.specs.Array.{IsFromFnResult, IsFromFnResultFrom, IsMapOf, MapsFrom}
use denote.Param.Members.{Mut, Called}

module _ {F : Type 0} (g : Mut F (ℕ × Unit {0}) ℕ) (h : ℕ → ℕ) (f : F) (step : (i y : ℕ) (q : F) → Called g f (i, tt) y q → (y ≡ h i) × (q ≡ f)) where
  made_each : (n i : ℕ) (ys : List ℕ) → IsFromFnResultFrom g f ys i n → (k : ℕ) → i ≤ k → k < i + n → get_or ys k 0 ≡ h k
  made_each zero i ys made k le lt = let no : ⊥ = omega arith in elim no [ ]
  made_each (suc n) i ys (q, y, at, called, rest) k le lt =
      let s = step i y q called in
      ⊎_elim
      (λ e. ap (λ j. get_or ys j 0) e ∙ at.1 0 ∙ s.0 ∙ ap h (sym e))
      (λ ne. made_each n (i + 1) ys (subst (λ p. IsFromFnResultFrom g p ys (i + 1) n) s.1 rest) k (omega arith) (omega arith))
      (cases_eq k i)

  pub made_by : (ys : List ℕ) (n : ℕ) → IsFromFnResult g f ys n → ys ≡ map h (range_with_len 0 n)
  made_by ys n made = fill_by_all h ys n 0 made.long (λ k lt. made_each n 0 ys made.each k (omega arith) (omega arith))

module _ {F B : Type 0} (g : Mut F (ℕ × Unit {0}) B) (h : ℕ → B) (f : F) (step : (x : ℕ) (y : B) (q : F) → Called g f (x, tt) y q → (y ≡ h x) × (q ≡ f)) where
  mapped_each : (n i : ℕ) (xs : List ℕ) (ys : List B) → MapsFrom g f xs ys i n → (k : ℕ) (d : B) → i ≤ k → k < i + n → get_or ys k d ≡ h (get_or xs k 0)
  mapped_each zero i xs ys made k d le lt = let no : ⊥ = omega arith in elim no [ ]
  mapped_each (suc n) i xs ys (q, x, y, from, to, called, rest) k d le lt =
      let s = step x y q called in
      ⊎_elim
      (λ e. ap (λ j. get_or ys j d) e ∙ to.1 d ∙ s.0 ∙ ap h (sym (from.1 0)) ∙ ap (λ j. h (get_or xs j 0)) (sym e))
      (λ ne. mapped_each n (i + 1) xs ys (subst (λ p. MapsFrom g p xs ys (i + 1) n) s.1 rest) k d (omega arith) (omega arith))
      (cases_eq k i)

  pub mapped_by : (xs : List ℕ) (ys : List B) (n : ℕ) → length xs ≡ n → IsMapOf g f xs ys n → ys ≡ map h xs
  mapped_by xs ys n long made =
      let same : length (map h xs) ≡ length xs = length-map xs h in
      same_lists ys (map h xs) (made.long ∙ sym long ∙ sym same)
      (λ k d lt. let m = made.long in mapped_each n 0 xs ys made.each k d (omega arith) (omega arith) ∙ sym (get_or-map h xs k 0 d (omega arith)))
