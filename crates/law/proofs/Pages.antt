-- An image that was written page by page lies in its blocks.
use Rattle.std.proofs.Common.{◌≡◌, ℕ, zero, suc, ◌+◌, ◌-◌, ◌*◌, ◌<◌, ◌≤◌, List, [], ◌∷◌, ◌++◌, length, get_or, take, drop, set, replicate, sym, refl, ap, ◌∙◌, subst, ap₂, arith}
use native.Mathlib.Decide.{dec_le}
use lib.Seq.{take-append_seam, take-append-add}
use Rattle.std.specs.List.{flat_map, AllByRecursion}
use Rattle.std.proofs.lemmas.List.{length-set, length-take, length-drop, length-append, length-replicate, get_or-set_same, get_or-set_other, get_or-take, get_or_append_left, take-append-drop, take_all, append_assoc, append-nil, nil_from_length, drop_more}
use Rattle.std.proofs.ByRecursion.{All-set}
use Rattle.layout.specs.Address.{blocks_of}
use Rattle.layout.specs.Image.{length_of, IsImage}
use Rattle.layout.specs.Placing.{Lies}
use Rattle.board.specs.Stored.{image_at, said_at, pages}
use Rattle.board.specs.Writes.{Put}
use Rattle.board.specs.Calls.{puts}
use Rattle.law.proofs.Stored.{Sized}
use Rattle.law.proofs.Traces.{applied}
use Rattle.law.proofs.Invariant.{Base}

-- writes from block b on keep the number of blocks, and leave those ahead
pub puts_length : (b : ℕ) (xs bs : List (List ℕ)) → length (applied (puts b xs) bs) ≡ length bs
puts_length b [] bs = refl
puts_length b (x ∷ xs) bs = puts_length (suc b) xs (set bs b x) ∙ length-set bs b x

-- they leave the blocks ahead
puts_ahead : (b : ℕ) (xs bs : List (List ℕ)) (c : ℕ) → c < b → get_or (applied (puts b xs) bs) c [] ≡ get_or bs c []
puts_ahead b [] bs c lt = refl
puts_ahead b (x ∷ xs) bs c lt = puts_ahead (suc b) xs (set bs b x) c (omega arith) ∙ get_or-set_other bs b c x [] (omega arith)

-- they are in their blocks
puts_there : (b : ℕ) (xs bs : List (List ℕ)) → b + length xs ≤ length bs → take (length xs) (drop b (applied (puts b xs) bs)) ≡ xs
puts_there b [] bs room = refl
puts_there b (x ∷ xs) bs room =
    let bs' : List (List ℕ) = applied (puts (suc b) xs) (set bs b x) in
    let many : length bs' ≡ length bs = puts_length (suc b) xs (set bs b x) ∙ length-set bs b x in
    let room' : suc b + length xs ≤ length (set bs b x) = omega (arith, length-set bs b x) in
    let first : get_or bs' b [] ≡ x = puts_ahead (suc b) xs (set bs b x) b (omega arith) ∙ get_or-set_same bs b x [] (omega arith) in
    let split : drop b bs' ≡ get_or bs' b [] ∷ drop (b + 1) bs' = drop_more bs' b [] (omega arith) in
    let e : b + 1 ≡ suc b = omega arith in
    ap (take (suc (length xs))) (split ∙ ap₂ (λ (y : List ℕ) (k : ℕ). y ∷ drop k bs') first e) ∙ ap (λ (t : List (List ℕ)). x ∷ t) (puts_there (suc b) xs (set bs b x) room')

-- the first one is in the first block
puts_first : (b : ℕ) (xs bs : List (List ℕ)) → 1 ≤ length xs → b < length bs → get_or (applied (puts b xs) bs) b [] ≡ get_or xs 0 []
puts_first b [] bs some lt = absurd (omega arith)
puts_first b (x ∷ xs) bs some lt = puts_ahead (suc b) xs (set bs b x) b (omega arith) ∙ get_or-set_same bs b x [] lt

-- they keep blocks of 512 bytes
puts_sized : (b : ℕ) (xs bs : List (List ℕ)) → Sized xs → Sized bs → Sized (applied (puts b xs) bs)
puts_sized b [] bs s t = t
puts_sized b (x ∷ xs) bs s t = puts_sized (suc b) xs (set bs b x) s.1 (All-set (λ (c : List ℕ). length c ≡ 512) bs b x s.0 t)

-- they go into blocks of the store
pub puts_range : (b count : ℕ) (xs : List (List ℕ)) → b + length xs ≤ count → AllByRecursion (λ (p : Put). p.block < count) (puts b xs)
puts_range b count [] room = tt
puts_range b count (x ∷ xs) room = (omega arith, puts_range (suc b) count xs (omega arith))

-- pages have 512 bytes each, and joined they begin with the image
page_length : (xs : List ℕ) → length xs ≤ 512 → length (xs ++ replicate (512 - length xs) 0) ≡ 512
page_length xs h = length-append xs (replicate (512 - length xs) 0) ∙ omega (arith, length-replicate {A = ℕ} (512 - length xs) 0)

-- each page has 512
pub pages_sized : (n : ℕ) (xs : List ℕ) → Sized (pages n xs)
unfolding pages Rattle.board.specs.Stored.paged
pages_sized zero xs = tt
pages_sized (suc n) xs = (page_length (take 512 xs) (omega (arith, length-take 512 xs)), pages_sized n (drop 512 xs))

-- there are as many as asked for
pub pages_length : (n : ℕ) (xs : List ℕ) → length (pages n xs) ≡ n
unfolding pages Rattle.board.specs.Stored.paged
pages_length zero xs = refl
pages_length (suc n) xs = ap suc (pages_length n (drop 512 xs))

-- joined they begin with the image
pages_joined : (n : ℕ) (xs : List ℕ) → length xs ≤ 512 * n → take (length xs) (flat_map (λ (c : List ℕ). c) (pages n xs)) ≡ xs
unfolding pages Rattle.board.specs.Stored.paged
pages_joined zero xs h =
    let e : xs ≡ [] = nil_from_length xs (omega arith) in
    subst (λ (t : List ℕ). take (length t) [] ≡ t) (sym e) refl
pages_joined (suc n) xs h = elim (dec_le (length xs) 512) [ yes le ↦ short le | no gt ↦ long (omega arith) (pages_joined n (drop 512 xs)) ]
  where
    rest : List ℕ
    rest = flat_map (λ (c : List ℕ). c) (pages n (drop 512 xs))

    short : length xs ≤ 512 → take (length xs) ((take 512 xs ++ replicate (512 - length (take 512 xs)) 0) ++ rest) ≡ xs
    short le = rw (take_all 512 xs le) (ap (take (length xs)) (append_assoc xs (replicate (512 - length xs) 0) rest) ∙ take-append_seam xs (replicate (512 - length xs) 0 ++ rest))

    long : 512 < length xs → (length (drop 512 xs) ≤ 512 * n → take (length (drop 512 xs)) rest ≡ drop 512 xs) →
        take (length xs) ((take 512 xs ++ replicate (512 - length (take 512 xs)) 0) ++ rest) ≡ xs
    long gt ih =
        let front : List ℕ = take 512 xs in
        let size : length front ≡ 512 = length-take 512 xs ∙ omega arith in
        let back : length (drop 512 xs) ≡ length xs - 512 = length-drop 512 xs in
        let full : front ++ replicate (512 - length front) 0 ≡ front = ap (λ (k : ℕ). front ++ replicate (512 - k) 0) size ∙ append-nil front in
        let all : length xs ≡ length front + length (drop 512 xs) = omega arith in
        ap (λ (t : List ℕ). take (length xs) (t ++ rest)) full
        ∙ (ap (λ (k : ℕ). take k (front ++ rest)) all
        ∙ (take-append-add front rest (length (drop 512 xs))
        ∙ (ap (λ (t : List ℕ). front ++ t) (ih (omega arith)) ∙ take-append-drop 512 xs)))

-- the first page gives the image's length
first_page : (n : ℕ) (xs : List ℕ) → 1 ≤ n → 2 ≤ length xs → length_of (get_or (pages n xs) 0 []) ≡ length_of xs
unfolding pages Rattle.board.specs.Stored.paged
first_page zero xs some two = absurd (omega arith)
first_page (suc n) xs some two = ap₂ (λ (x y : ℕ). x + y * 256) (at 0 (omega arith)) (at 1 (omega arith))
  where
    at : (k : ℕ) → k < 2 → get_or (take 512 xs ++ replicate (512 - length (take 512 xs)) 0) k 0 ≡ get_or xs k 0
    at k lt = get_or_append_left (take 512 xs) (replicate (512 - length (take 512 xs)) 0) 0 k (omega (arith, length-take 512 xs)) ∙ get_or-take 512 xs k 0 (omega arith)

-- the blocks after an image was written from block `first` on
abbrev pub paged : ℕ → List ℕ → List (List ℕ) → List (List ℕ)
paged first image bs = applied (puts first (pages (blocks_of (length image)) image)) bs

-- the image there gives itself its length
pub said_there : (image : List ℕ) (bs : List (List ℕ)) (first : ℕ) → IsImage image → first + blocks_of (length image) ≤ length bs →
    said_at (paged first image bs) first ≡ length image
said_there image bs first h room =
    let n : ℕ = blocks_of (length image) in
    ap length_of (puts_first first (pages n image) bs (omega (arith, pages_length n image)) (omega arith))
    ∙ first_page n image (omega arith) h.0 ∙ h.2

-- its bytes are there
pub image_there : (image : List ℕ) (bs : List (List ℕ)) (first : ℕ) → first + blocks_of (length image) ≤ length bs →
    image_at (paged first image bs) first (length image) ≡ image
unfolding image_at
image_there image bs first room =
    let n : ℕ = blocks_of (length image) in
    let ps : List (List ℕ) = pages n image in
    let there : take n (drop first (paged first image bs)) ≡ ps =
    ap (λ (k : ℕ). take k (drop first (paged first image bs))) (sym (pages_length n image)) ∙ puts_there first ps bs (omega (arith, pages_length n image)) in
    ap (λ (t : List (List ℕ)). take (length image) (flat_map (λ (c : List ℕ). c) t)) there ∙ pages_joined n image (omega arith)

-- it lies in the store
pub base_there : (image : List ℕ) (bs : List (List ℕ)) (first : ℕ) → IsImage image → Lies (length bs) first (length image) →
    Sized bs → (8 ≤ length bs) × (length bs ≤ 112) → Base image (paged first image bs) first (length image)
base_there image bs first h lies s fit =
    let n : ℕ = blocks_of (length image) in
    let many : length (paged first image bs) ≡ length bs = puts_length first (pages n image) bs in
    record {
      sized = puts_sized first (pages n image) bs (pages_sized n image) s;
      fit = rw many fit;
      lies = rw many lies;
      says = said_there image bs first h (omega arith);
      image = image_there image bs first (omega arith);
    }
