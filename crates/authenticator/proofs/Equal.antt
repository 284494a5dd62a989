-- Two lists of bytes compared by what their bytes differ in, pair by pair.
use Rattle.std.proofs.Common.{◌≡◌, ℕ, List, [], ◌∷◌, ◌++◌, length, sym, refl, ap, ◌∙◌, arith}
use lib.Bits.{bit_or, bit_xor, and_le_l, and_le_r, or_add_and, xor_add_and, xor_self, or_zero_l}
use Rattle.std.specs.Bool.{⊤}
use Rattle.std.specs.List.{zip}

-- each pair is of the same byte twice
abbrev pub Same : List (ℕ × ℕ) → Type 0
Same [] = ⊤
Same (p ∷ ps) = (p.0 ≡ p.1) × Same ps

-- what is found of some pairs: 0 exactly where each is of the same byte twice
abbrev pub Found : List (ℕ × ℕ) → ℕ → Type 0
Found ps differ = (differ ≡ 0 → Same ps) × (Same ps → differ ≡ 0)

same_more : (ps : List (ℕ × ℕ)) (p : ℕ × ℕ) → Same ps → p.0 ≡ p.1 → Same (ps ++ p ∷ [])
same_more [] p s e = (e, tt)
same_more (q ∷ ps) p s e = (s.0, same_more ps p s.1 e)

same_before : (ps : List (ℕ × ℕ)) (p : ℕ × ℕ) → Same (ps ++ p ∷ []) → Same ps × (p.0 ≡ p.1)
same_before [] p s = (tt, s.0)
same_before (q ∷ ps) p s = let r = same_before ps p s.1 in ((s.0, r.0), r.1)

xor_same : (x y : ℕ) → bit_xor x y ≡ 0 → x ≡ y
xor_same x y e = omega (arith, xor_add_and x y, and_le_l x y, and_le_r x y)

or_left : (x y : ℕ) → bit_or x y ≡ 0 → x ≡ 0
or_left x y e = omega (arith, or_add_and x y, and_le_l x y, and_le_r x y)

or_right : (x y : ℕ) → bit_or x y ≡ 0 → y ≡ 0
or_right x y e = omega (arith, or_add_and x y, and_le_l x y, and_le_r x y)

-- one pair more
pub found_more : (ps : List (ℕ × ℕ)) (differ next : ℕ) (p : ℕ × ℕ) → next ≡ bit_or differ (bit_xor p.0 p.1) → Found ps differ → Found (ps ++ p ∷ []) next
found_more ps differ next p e found = (
  λ z.
      let none : bit_or differ (bit_xor p.0 p.1) ≡ 0 = sym e ∙ z in
      same_more ps p (found.0 (or_left differ (bit_xor p.0 p.1) none)) (xor_same p.0 p.1 (or_right differ (bit_xor p.0 p.1) none)),
  λ s.
      let r = same_before ps p s in
      let none : bit_xor p.0 p.1 ≡ 0 = ap (λ q. bit_xor p.0 q) (sym r.1) ∙ xor_self p.0 in
      e ∙ ap (λ q. bit_or q (bit_xor p.0 p.1)) (found.1 r.0) ∙ or_zero_l (bit_xor p.0 p.1) ∙ none,
)

zip_same : (a b : List ℕ) → length a ≡ length b → Same (zip a b) → a ≡ b
zip_same [] [] e s = refl
zip_same [] (y ∷ b) e s = let no : ⊥ = omega arith in elim no [ ]
zip_same (x ∷ a) [] e s = let no : ⊥ = omega arith in elim no [ ]
zip_same (x ∷ a) (y ∷ b) e s = let head : x ≡ y = s.0 in let tail : a ≡ b = zip_same a b (omega arith) s.1 in cc

zip_self : (a : List ℕ) → Same (zip a a)
zip_self [] = tt
zip_self (x ∷ a) = (refl, zip_self a)

-- all of two lists of one length
pub found_all : (a b : List ℕ) (differ : ℕ) → length a ≡ length b → Found (zip a b) differ → (differ ≡ 0 → a ≡ b) × (a ≡ b → differ ≡ 0)
found_all a b differ long found = (λ e. zip_same a b long (found.0 e), λ e. found.1 (rw (sym e) (zip_self a)))
