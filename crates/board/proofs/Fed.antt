-- An image that is fed block by block, and its token.
use Rattle.std.proofs.Common.{◌≡◌, ℕ, ◌+◌, ◌-◌, ◌*◌, ◌<◌, min, List, [], ◌∷◌, ◌++◌, length, get_or, take, sym, refl, ap, ◌∙◌, ap₂, arith}
use native.Mathlib.Nat.{sub-zero}
use Rattle.authenticator.specs.Meaning.{Meaning, padded}
use Rattle.authenticator.proofs.Padding.{front_padded}
use Rattle.planner.specs.Token.{token_of}
use Rattle.store.specs.Medium.{Whole}
use Rattle.board.specs.Stored.{image_at}
use Rattle.board.proofs.Images.{image_more}

-- nothing of an image
image_none : (bs : List (List ℕ)) (f : ℕ) → image_at bs f 0 ≡ []
unfolding image_at
image_none bs f = refl

module _ (a : Meaning) (k : a.Key) (s : a.State) (bs : List (List ℕ)) (f l : ℕ) where
  -- no block yet
  pub fed_none : s ≡ a.feeds k s (image_at bs f (min 0 l))
  fed_none =
      let z : min 0 l ≡ 0 = omega arith in
      sym (ap (a.feeds k s) (ap (image_at bs f) z ∙ image_none bs f) ∙ a.nothing k s)

  -- one block more, or its beginning
  pub fed_more : (i e : ℕ) (k1 : a.Key) (s1 s2 : a.State) (block : List ℕ) → Whole bs → f + i < length bs → 512 * i < l
      → k1 ≡ k → s1 ≡ a.feeds k s (image_at bs f (min (512 * i) l)) → block ≡ get_or bs (f + i) [] → e ≡ min (l - i * 512) 512
      → s2 ≡ a.feeds k1 s1 (take (e - 0) block) → s2 ≡ a.feeds k s (image_at bs f (min (512 * (i + 1)) l))
  fed_more i e k1 s1 s2 block w lt more ek es eb ee fed =
      let here : min (512 * i) l ≡ 512 * i = omega arith in
      let there : 512 * i + (e - 0) ≡ min (512 * (i + 1)) l = omega arith in
      let j : a.feeds k (a.feeds k s (image_at bs f (512 * i))) (take (e - 0) (get_or bs (f + i) [])) ≡ a.feeds k s (image_at bs f (512 * i) ++ take (e - 0) (get_or bs (f + i) [])) =
      a.joined k s (image_at bs f (512 * i)) (take (e - 0) (get_or bs (f + i) [])) in
      let part : image_at bs f (512 * i + (e - 0)) ≡ image_at bs f (512 * i) ++ take (e - 0) (get_or bs (f + i) []) = image_more bs w f i (e - 0) lt (omega arith) in
      let whole : a.feeds k s (image_at bs f (512 * i + (e - 0))) ≡ a.feeds k s (image_at bs f (min (512 * (i + 1)) l)) = ap (λ (n : ℕ). a.feeds k s (image_at bs f n)) there in
      fed ∙ (ap (λ (q : a.Key). a.feeds q s1 (take (e - 0) block)) ek
      ∙ (ap₂ (λ (t : a.State) (x : List ℕ). a.feeds k t (take (e - 0) x)) (es ∙ ap (λ (n : ℕ). a.feeds k s (image_at bs f n)) here) eb
      ∙ (j ∙ (sym (ap (a.feeds k s) part) ∙ whole))))

  -- all blocks
  pub fed_all : (n : ℕ) (s1 : a.State) → min (512 * n) l ≡ l → s1 ≡ a.feeds k s (image_at bs f (min (512 * n) l)) → s1 ≡ a.feeds k s (image_at bs f l)
  fed_all n s1 all e = e ∙ ap (λ (q : ℕ). a.feeds k s (image_at bs f q)) all

-- the front of the buffer is the token of what was fed
pub fed_token : (a : Meaning) (k k1 k2 k3 : a.Key) (s1 s2 s3 : a.State) (image out : List ℕ) (n : ℕ)
    → k1 ≡ k → k2 ≡ k1 → k3 ≡ k2 → s1 ≡ a.begin k → s2 ≡ a.feeds k1 s1 (0 ∷ []) → s3 ≡ a.feeds k2 s2 image
    → out ≡ padded (a.closes k3 s3) → n ≡ a.size → take (n - 0) out ≡ token_of a k image
fed_token a k k1 k2 k3 s1 s2 s3 image out n e1 e2 e3 f1 f2 f3 o size =
    let j : a.feeds k (a.feeds k (a.begin k) (0 ∷ [])) image ≡ a.feeds k (a.begin k) (0 ∷ image) = a.joined k (a.begin k) (0 ∷ []) image in
    let fed : a.closes k3 s3 ≡ token_of a k image = cc in
    ap (λ (i : ℕ). take i out) (sub-zero n ∙ size) ∙ (ap (take a.size) (o ∙ ap padded fed)
    ∙ front_padded (token_of a k image) a.size (a.sized k (a.feeds k (a.begin k) (0 ∷ image))))
