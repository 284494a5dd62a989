-- The pages of an image, as they are laid and written.
use Rattle.std.proofs.Common.{◌≡◌, ℕ, zero, suc, ◌+◌, ◌-◌, ◌*◌, ◌<◌, ◌≤◌, min, List, [], ◌∷◌, ◌++◌, length, take, drop, replicate, Ok, Err, Result, sym, refl, ap, ◌∙◌, subst, ap₂, inr, arith}
use native.Mathlib.Decide.{dec_le}
use native.Mathlib.Nat.{sub-zero}
use Rattle.std.proofs.Math.Seq.{take-append_seam, drop-append_seam}
use Rattle.std.proofs.lemmas.List.{length-drop, length-append, take_all, drop_all, nil_from_length, append-nil, drop-replicate, drop-drop}
use Rattle.layout.specs.Address.{blocks_of}
use Rattle.layout.specs.Image.{IsImage, vectors_of}
use Rattle.control.specs.Blocks.{formed, flag_block, pointer_to}
use Rattle.control.specs.declared.kind.Flag.TheVariants.{Finished}
use Rattle.layout.specs.Placing.{GoesPast}
use Rattle.store.specs.Medium.{Medium, woken}
use Rattle.board.specs.declared.answers.Supply.{Supply}
use Rattle.board.specs.Answers.{cleared}
use Rattle.board.specs.declared.answers.Answer.TheVariants as answer
use Rattle.board.specs.declared.results.Denied.TheVariants as denied
use Rattle.board.specs.declared.states.Cold.{Cold}
use Rattle.board.specs.Calls.{Loads, IsScratch, IsStore, count_of, puts, loading}
use Rattle.board.specs.Results.{loaded}
use Rattle.board.specs.States.{cold}
use Rattle.board.specs.Rows.{Row}
use Rattle.board.specs.Stored.{paged, pages}
use Rattle.board.specs.Writes.{Put, Write, put}
use Rattle.board.proofs.Made.{all_done, not_done}
use Rattle.board.proofs.Rowed.{more, stopped}

-- a page over zeros
pub laid_page : (page copied buffer zeros : List ℕ) → length page ≤ 512 → copied ≡ page → length buffer ≡ 512 → zeros ≡ cleared buffer →
    copied ++ drop (length page) zeros ≡ paged page
unfolding paged cleared
laid_page page copied buffer zeros few is size z =
    let all : take 512 page ≡ page = take_all 512 page few in
    let tail : drop (length page) zeros ≡ replicate (512 - length page) 0 =
    ap (drop (length page)) (z ∙ ap (λ (j : ℕ). replicate j 0) size) ∙ drop-replicate (length page) 512 0 in
    ap₂ ◌++◌ (is ∙ sym all) (tail ∙ sym (ap (λ (p : List ℕ). replicate (512 - length p) 0) all))

-- the first chunk of some bytes, and the others
chunk_front : (xs page rest : List ℕ) → xs ≡ page ++ rest → length page ≡ min 512 (length xs) → take 512 xs ≡ page
chunk_front xs page rest parts size = elim (dec_le 512 (length xs)) [ yes full ↦ whole (omega (arith, size, full)) | no part ↦ last (omega (arith, part)) ]
  where
    whole : 512 ≡ length page → take 512 xs ≡ page
    whole e = ap₂ take e parts ∙ take-append_seam page rest

    last : length xs < 512 → take 512 xs ≡ page
    last lt =
        let none : rest ≡ [] = nil_from_length rest (omega (arith, ap length parts, length-append page rest, size)) in
        take_all 512 xs (omega arith) ∙ (parts ∙ (ap (λ (t : List ℕ). page ++ t) none ∙ append-nil page))

chunk_rest : (xs page rest : List ℕ) → xs ≡ page ++ rest → length page ≡ min 512 (length xs) → drop 512 xs ≡ rest
chunk_rest xs page rest parts size = elim (dec_le 512 (length xs)) [ yes full ↦ whole (omega (arith, size, full)) | no part ↦ last (omega (arith, part)) ]
  where
    whole : 512 ≡ length page → drop 512 xs ≡ rest
    whole e = ap₂ drop e parts ∙ drop-append_seam page rest

    last : length xs < 512 → drop 512 xs ≡ rest
    last lt = drop_all 512 xs (omega arith) ∙ sym (nil_from_length rest (omega (arith, ap length parts, length-append page rest, size)))

-- a chunk fills the block that the bytes from it on fill; behind it are those of the next
module _ (image rest page rest' : List ℕ) (k : ℕ) (here : rest ≡ drop (512 * k) image) (parts : rest ≡ page ++ rest') (size : length page ≡ min 512 (length rest)) where
  pub chunk_paged : paged page ≡ paged (drop (512 * k) image)
  unfolding paged
  chunk_paged =
      let same : take 512 page ≡ take 512 (drop (512 * k) image) =
      take_all 512 page (omega (arith, size)) ∙ (sym (chunk_front rest page rest' parts size) ∙ ap (take 512) here) in
      ap (λ (p : List ℕ). p ++ replicate (512 - length p) 0) same

  pub chunk_next : rest' ≡ drop (512 * (k + 1)) image
  chunk_next =
      sym (chunk_rest rest page rest' parts size) ∙ (ap (drop 512) here ∙ (drop-drop 512 (512 * k) image ∙ ap (λ (i : ℕ). drop i image) (omega arith)))

-- the page is one of the image's
pub chunk_within : (image rest : List ℕ) (k : ℕ) → rest ≡ drop (512 * k) image → 0 < length rest → k < blocks_of (length image)
chunk_within image rest k here some = omega (arith, ap length here, length-drop (512 * k) image, some)

-- the writes from page k on
abbrev pub Rest : ℕ → ℕ → List ℕ → Medium → Result Unit Supply → Medium → Type 0
Rest n k image m r e = Row (k + 1) (puts (4 + k) (pages (n - k) (drop (512 * k) image))) m r e

-- the first of them, and those after it
split : (n k : ℕ) (image : List ℕ) → k < n →
    puts (4 + k) (pages (n - k) (drop (512 * k) image)) ≡ put (4 + k) (paged (drop (512 * k) image)) ∷ puts (4 + (k + 1)) (pages (n - (k + 1)) (drop (512 * (k + 1)) image))
unfolding pages
split n k image lt =
    let count : n - k ≡ suc (n - (k + 1)) = omega arith in
    let next : drop 512 (drop (512 * k) image) ≡ drop (512 * (k + 1)) image = drop-drop 512 (512 * k) image ∙ ap (λ (i : ℕ). drop i image) (omega arith) in
    let after : suc (4 + k) ≡ 4 + (k + 1) = omega arith in
    ap (λ (i : ℕ). puts (4 + k) (pages i (drop (512 * k) image))) count ∙
    ap₂ (λ (b : ℕ) (xs : List ℕ). put (4 + k) (paged (drop (512 * k) image)) ∷ puts b (pages (n - (k + 1)) xs)) after next

module _ (n k : ℕ) (image page : List ℕ) (m d : Medium) (lt : k < n) (is : page ≡ paged (drop (512 * k) image)) where
  -- page k was written
  pub wrote_page : Row (k + 1) (put (4 + k) page ∷ []) m (Ok tt) d → (r : Result Unit Supply) (e : Medium) → Rest n (k + 1) image d r e → Rest n k image m r e
  wrote_page p r e rest =
      subst (λ (plan : List Put). Row (k + 1) plan m r e) (sym (split n k image lt))
      (more (put (4 + k) (paged (drop (512 * k) image)) ∷ []) (puts (4 + (k + 1)) (pages (n - (k + 1)) (drop (512 * (k + 1)) image))) (k + 1) (k + 1 + 1) m d r e refl
      (subst (λ (x : List ℕ). Row (k + 1) (put (4 + k) x ∷ []) m (Ok tt) d) is p) rest)

  -- it was not
  pub lost_page : (s : Supply) → Row (k + 1) (put (4 + k) page ∷ []) m (Err s) d → Rest n k image m (Err s) d
  lost_page s p =
      subst (λ (plan : List Put). Row (k + 1) plan m (Err s) d) (sym (split n k image lt))
      (stopped (put (4 + k) (paged (drop (512 * k) image)) ∷ []) (puts (4 + (k + 1)) (pages (n - (k + 1)) (drop (512 * (k + 1)) image))) (k + 1) m s d
      (subst (λ (x : List ℕ). Row (k + 1) (put (4 + k) x ∷ []) m (Err s) d) is p))

-- no page is left
pub chunk_past : (image rest : List ℕ) (k : ℕ) → rest ≡ drop (512 * k) image → length rest ≡ 0 → blocks_of (length image) ≤ k
chunk_past image rest k here none = omega (arith, ap length here, length-drop (512 * k) image, none)

-- ahead of the first page, and behind the last
pub from_first : (n : ℕ) (image : List ℕ) (m : Medium) (r : Result Unit Supply) (e : Medium) → Rest n 0 image m r e → Row 1 (puts 4 (pages n image)) m r e
from_first n image m r e p = subst (λ (i : ℕ). Row 1 (puts 4 (pages i image)) m r e) (sub-zero n) p

pub past_last : (n k : ℕ) (image : List ℕ) (m : Medium) → n ≤ k → Rest n k image m (Ok tt) m
unfolding pages
past_last n k image m le =
    let none : n - k ≡ 0 = omega arith in
    subst (λ (i : ℕ). Row (k + 1) (puts (4 + k) (pages i (drop (512 * k) image))) m (Ok tt) m) (sym none) (refl, refl)

-- the number of pages, and of their writes
pages_count : (n : ℕ) (image : List ℕ) → length (pages n image) ≡ n
unfolding pages
pages_count zero image = refl
pages_count (suc n) image = ap suc (pages_count n (drop 512 image))

puts_count : (b : ℕ) (xs : List (List ℕ)) → length (puts b xs) ≡ length xs
puts_count b [] = refl
puts_count b (x ∷ xs) = ap suc (puts_count (suc b) xs)

module _ (image : List ℕ) (first len : ℕ) (at : first ≡ 4) (long : len ≡ length image) where
  abbrev control : List Put
  control = put 1 (formed (vectors_of image)) ∷ put 2 (flag_block Finished) ∷ put 0 (pointer_to 4 (length image)) ∷ []

  abbrev blocks : ℕ
  blocks = blocks_of (length image)

  -- the writes of a load, wholly or up to the page that was not written
  pub load_row : (vectors : List ℕ) (n : ℕ) (m d : Medium) (r : Result Unit Supply) (e : Medium) → vectors ≡ vectors_of image → n ≡ blocks_of len →
      Row 1 (puts 4 (pages blocks image)) m (Ok tt) d →
      Row (n + 1) (put 1 (formed vectors) ∷ put 2 (flag_block Finished) ∷ put 0 (pointer_to first len) ∷ []) d r e → Row 1 (loading image) m r e
  load_row vectors n m d r e held count p q =
      more (puts 4 (pages blocks image)) control 1 (n + 1) m d r e
      (omega (arith, puts_count 4 (pages blocks image), pages_count blocks image, count ∙ ap blocks_of long)) p
      (subst (λ (f : ℕ). Row (n + 1) (put 1 (formed (vectors_of image)) ∷ put 2 (flag_block Finished) ∷ put 0 (pointer_to f (length image)) ∷ []) d r e) at
      (subst (λ (l : ℕ). Row (n + 1) (put 1 (formed (vectors_of image)) ∷ put 2 (flag_block Finished) ∷ put 0 (pointer_to first l) ∷ []) d r e) long
      (subst (λ (v : List ℕ). Row (n + 1) (put 1 (formed v) ∷ put 2 (flag_block Finished) ∷ put 0 (pointer_to first len) ∷ []) d r e) held q)))

  pub load_stopped : (m : Medium) (s : Supply) (e : Medium) → Row 1 (puts 4 (pages blocks image)) m (Err s) e → Row 1 (loading image) m (Err s) e
  load_stopped m s e p = stopped (puts 4 (pages blocks image)) control 1 m s e p

-- A load, from its writes.
module _ (m w e : Medium) (image scratch : List ℕ) (right : IsScratch scratch) (fit : IsStore m)
    (may : IsImage image × (GoesPast (count_of m) 4 (length image) → ⊥)) (woke : w ≡ woken m) where
  pub load_done : (c : Cold) → Row 1 (loading image) w (Ok tt) e →
      (ws : List Write) × Loads m image scratch (loaded ws (Ok c) e) (cleared scratch)
  load_done c p =
      let q = all_done (loading image) (woken m) answer.Done cold e (subst (λ (x : Medium). Row 1 (loading image) x (Ok tt) e) woke p) in
      (q.0, record { outcome = inr (right, inr (fit, inr (may, q.1))); scratch_left = refl })

  pub load_cut : (c : Cold) (s : Supply) → Row 1 (loading image) w (Err s) e →
      (ws : List Write) × Loads m image scratch (loaded ws (Err (denied.Supply c s)) e) (cleared scratch)
  load_cut c s p =
      let q = not_done (loading image) (woken m) answer.Done cold e s (subst (λ (x : Medium). Row 1 (loading image) x (Err s) e) woke p) in
      (q.0, record { outcome = inr (right, inr (fit, inr (may, q.1))); scratch_left = refl })
