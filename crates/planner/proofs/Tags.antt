-- The front of a buffer that holds a tag, and the message that a board confirms.
use Rattle.std.proofs.Common.{◌≡◌, ℕ, ◌/◌, ◌%◌, List, [], ◌∷◌, length, get_or, take, sym, refl, ap, ◌∙◌}
use Rattle.std.proofs.lemmas.List.FromFn.{fill_by_all}
use Rattle.authenticator.specs.Meaning.{Meaning, padded}
use Rattle.authenticator.proofs.Padding.{front_padded}
use Rattle.planner.specs.Confirmation.{confirmation_of}

pub front_confirmed : (m : Meaning) (k : m.Key) (version : ℕ) (nonce out : List ℕ) (n : ℕ)
    → n ≡ m.size → out ≡ padded (confirmation_of m k version nonce) → take n out ≡ confirmation_of m k version nonce
front_confirmed m k version nonce out n en e =
    ap (λ i. take i out) en ∙ ap (take m.size) e
    ∙ front_padded (confirmation_of m k version nonce) m.size (m.sized k (m.feeds k (m.begin k) (1 ∷ version % 256 ∷ version / 256 % 256 ∷ nonce)))

-- the bytes of a version and of a nonce, one by one
pub listed : (word nonce : List ℕ) (low high : ℕ) → word ≡ low ∷ high ∷ [] → length nonce ≡ 8
    → get_or word 0 0 ∷ get_or word 1 0 ∷ get_or nonce 0 0 ∷ get_or nonce 1 0 ∷ get_or nonce 2 0 ∷ get_or nonce 3 0 ∷ get_or nonce 4 0 ∷ get_or nonce 5 0 ∷ get_or nonce 6 0 ∷ get_or nonce 7 0 ∷ []
    ≡ low ∷ high ∷ nonce
listed word nonce low high e long =
    let eight : nonce ≡ get_or nonce 0 0 ∷ get_or nonce 1 0 ∷ get_or nonce 2 0 ∷ get_or nonce 3 0 ∷ get_or nonce 4 0 ∷ get_or nonce 5 0 ∷ get_or nonce 6 0 ∷ get_or nonce 7 0 ∷ [] =
    fill_by_all (λ k. get_or nonce k 0) nonce 8 0 long (λ k _. refl) in
    ap (λ w. get_or w 0 0 ∷ get_or w 1 0 ∷ get_or nonce 0 0 ∷ get_or nonce 1 0 ∷ get_or nonce 2 0 ∷ get_or nonce 3 0 ∷ get_or nonce 4 0 ∷ get_or nonce 5 0 ∷ get_or nonce 6 0 ∷ get_or nonce 7 0 ∷ []) e
    ∙ ap (λ n. low ∷ high ∷ n) (sym eight)
