-- An image in a store, read block by block or byte by byte.
use Rattle.std.proofs.Common.{◌≡◌, ℕ, suc, ◌+◌, ◌-◌, ◌*◌, ◌/◌, ◌%◌, ◌<◌, ◌≤◌, List, [], ◌∷◌, ◌++◌, length, get_or, take, drop, sym, refl, ap, ◌∙◌, ap₂, arith}
use native.Mathlib.Decide.{dec_le}
use lib.Seq.{take-append-add}
use Rattle.std.specs.List.{flat_map, AllByRecursion}
use Rattle.std.proofs.lemmas.List.{length-take, length-drop, length-append, get_or-take, get_or-drop, get_or_append_left, get_or-append_right, take-append-drop, take-append-le, drop_more, drop-drop, take_all, append_assoc}
use Rattle.std.proofs.lemmas.List.FromFn.{fill_by_all}
use Rattle.std.proofs.ByRecursion.{All-take, All-drop}
use Rattle.store.specs.Medium.{Whole}
use Rattle.layout.specs.Address.{blocks_of}
use Rattle.layout.specs.Image.{version_of, nonce_of, vectors_of}
use Rattle.board.specs.Stored.{image_at}

abbrev Sized : List (List ℕ) → Type 0
Sized bs = AllByRecursion (λ (b : List ℕ). length b ≡ 512) bs

abbrev whole : List (List ℕ) → List ℕ
whole bs = flat_map (λ (c : List ℕ). c) bs

sized : (bs : List (List ℕ)) → Whole bs → Sized bs
sized [] w = tt
sized (b ∷ bs) w = (w 0 (omega arith), sized bs (λ i h. w (suc i) (omega arith)))

whole_length : (bs : List (List ℕ)) → Sized bs → length (whole bs) ≡ 512 * length bs
whole_length [] s = refl
whole_length (b ∷ bs) s = length-append b (whole bs) ∙ omega (arith, s.0, whole_length bs s.1)

whole-++ : (xs ys : List (List ℕ)) → whole (xs ++ ys) ≡ whole xs ++ whole ys
whole-++ [] ys = refl
whole-++ (x ∷ xs) ys = ap (λ (t : List ℕ). x ++ t) (whole-++ xs ys) ∙ sym (append_assoc x (whole xs) (whole ys))

sized_take : (n : ℕ) (bs : List (List ℕ)) → Sized bs → Sized (take n bs)
sized_take n bs s = All-take (λ (b : List ℕ). length b ≡ 512) n bs s

sized_drop : (n : ℕ) (bs : List (List ℕ)) → Sized bs → Sized (drop n bs)
sized_drop n bs s = All-drop (λ (b : List ℕ). length b ≡ 512) n bs s

-- the first l bytes of the blocks lie in the first n blocks, if those are long enough
take_whole : (n l : ℕ) (bs : List (List ℕ)) → Sized bs → l ≤ 512 * n → n ≤ length bs → take l (whole (take n bs)) ≡ take l (whole bs)
take_whole n l bs s h many =
    let size : length (whole (take n bs)) ≡ 512 * n = whole_length (take n bs) (sized_take n bs s) ∙ ap (λ (k : ℕ). 512 * k) (length-take n bs ∙ omega arith) in
    let split : whole bs ≡ whole (take n bs) ++ whole (drop n bs) = ap whole (sym (take-append-drop n bs)) ∙ whole-++ (take n bs) (drop n bs) in
    sym (ap (take l) split ∙ take-append-le l (whole (take n bs)) (whole (drop n bs)) (omega arith))

image_whole : (bs : List (List ℕ)) (f l : ℕ) → Sized bs → 512 * f + l ≤ 512 * length bs → image_at bs f l ≡ take l (whole (drop f bs))
unfolding image_at
image_whole bs f l s h = take_whole (blocks_of l) l (drop f bs) (sized_drop f bs s) (omega arith) (omega (arith, length-drop f bs))

module _ (bs : List (List ℕ)) (w : Whole bs) (f : ℕ) where
  -- an image has its length
  pub image_length : (l : ℕ) → 512 * f + l ≤ 512 * length bs → length (image_at bs f l) ≡ l
  image_length l h =
      let n : length (whole (drop f bs)) ≡ 512 * (length bs - f) = whole_length (drop f bs) (sized_drop f bs (sized bs w)) ∙ ap (λ (k : ℕ). 512 * k) (length-drop f bs) in
      ap length (image_whole bs f l (sized bs w) h) ∙ (length-take l (whole (drop f bs)) ∙ omega arith)

  -- one more block, or its beginning
  pub image_more : (k r : ℕ) → f + k < length bs → r ≤ 512
      → image_at bs f (512 * k + r) ≡ image_at bs f (512 * k) ++ take r (get_or bs (f + k) [])
  image_more k r lt le =
      let s : Sized bs = sized bs w in
      let ds : List (List ℕ) = drop f bs in
      let sd : Sized ds = sized_drop f bs s in
      let many : length ds ≡ length bs - f = length-drop f bs in
      let front : List ℕ = whole (take k ds) in
      let size : length front ≡ 512 * k = whole_length (take k ds) (sized_take k ds sd) ∙ ap (λ (j : ℕ). 512 * j) (length-take k ds ∙ omega arith) in
      let split : whole ds ≡ front ++ whole (drop k ds) = ap whole (sym (take-append-drop k ds)) ∙ whole-++ (take k ds) (drop k ds) in
      let here : drop k ds ≡ get_or bs (f + k) [] ∷ drop (f + k + 1) bs = drop-drop k f bs ∙ drop_more bs (f + k) [] lt in
      let long : length (get_or bs (f + k) []) ≡ 512 = w (f + k) lt in
      let rest : take r (whole (drop k ds)) ≡ take r (get_or bs (f + k) []) =
      ap (λ (t : List (List ℕ)). take r (whole t)) here ∙ take-append-le r (get_or bs (f + k) []) (whole (drop (f + k + 1) bs)) (omega arith) in
      let a : image_at bs f (512 * k + r) ≡ take (512 * k + r) (whole ds) = image_whole bs f (512 * k + r) s (omega arith) in
      let b : image_at bs f (512 * k) ≡ take (512 * k) (whole ds) = image_whole bs f (512 * k) s (omega arith) in
      let c : take (512 * k) (whole ds) ≡ front = ap (take (512 * k)) split ∙ (take-append-le (512 * k) front (whole (drop k ds)) (omega arith) ∙ take_all (512 * k) front (omega arith)) in
      a ∙ (ap (take (512 * k + r)) split ∙ (ap (λ (j : ℕ). take (j + r) (front ++ whole (drop k ds))) (sym size) ∙
      (take-append-add front (whole (drop k ds)) r ∙ ap₂ ◌++◌ (sym (b ∙ c)) rest)))

-- byte i of blocks is byte i % 512 of block i / 512
whole-at : (bs : List (List ℕ)) (i : ℕ) → Sized bs → i < 512 * length bs → get_or (whole bs) i 0 ≡ get_or (get_or bs (i / 512) []) (i % 512) 0
whole-at [] i s h = absurd (omega arith)
whole-at (b ∷ bs) i s h = elim (dec_le 512 i) [ no lt ↦ here (omega arith) | yes le ↦ there le (whole-at bs (i - 512) s.1 (omega arith)) ]
  where
    here : i < 512 → get_or (b ++ whole bs) i 0 ≡ get_or (get_or (b ∷ bs) (i / 512) []) (i % 512) 0
    here lt =
        let q : i / 512 ≡ 0 = omega arith in
        let m : i % 512 ≡ i = omega arith in
        get_or_append_left b (whole bs) 0 i (omega (arith, s.0)) ∙ rw (q, m) refl

    there : 512 ≤ i → get_or (whole bs) (i - 512) 0 ≡ get_or (get_or bs ((i - 512) / 512) []) ((i - 512) % 512) 0
        → get_or (b ++ whole bs) i 0 ≡ get_or (get_or (b ∷ bs) (i / 512) []) (i % 512) 0
    there le ih =
        let q : i / 512 ≡ suc ((i - 512) / 512) = omega arith in
        let m : i % 512 ≡ (i - 512) % 512 = omega arith in
        get_or-append_right b (whole bs) 512 i 0 s.0 le ∙ (ih ∙ rw (q, m) refl)

module _ (bs : List (List ℕ)) (w : Whole bs) (f l : ℕ) (h : 512 * f + l ≤ 512 * length bs) where
  pub image_byte : (i : ℕ) → i < l → get_or (image_at bs f l) i 0 ≡ get_or (get_or bs (f + i / 512) []) (i % 512) 0
  image_byte i lt =
      let s : Sized bs = sized bs w in
      let many : length (drop f bs) ≡ length bs - f = length-drop f bs in
      ap (λ (t : List ℕ). get_or t i 0) (image_whole bs f l s h) ∙
      (get_or-take l (whole (drop f bs)) i 0 lt ∙
      (whole-at (drop f bs) i (sized_drop f bs s) (omega arith) ∙
      ap (λ (t : List ℕ). get_or t (i % 512) 0) (get_or-drop f bs (i / 512) [])))

  module _ (long : 46 ≤ l) where
    -- an image begins as its first block does
    front_byte : (i : ℕ) → i < 46 → get_or (image_at bs f l) i 0 ≡ get_or (get_or bs f []) i 0
    front_byte i lt =
        let q : f + i / 512 ≡ f = omega arith in
        let m : i % 512 ≡ i = omega arith in
        image_byte i (omega arith) ∙ ap₂ (λ (b j : ℕ). get_or (get_or bs b []) j 0) q m

    pub image_version : version_of (image_at bs f l) ≡ version_of (get_or bs f [])
    image_version = ap₂ (λ (a b : ℕ). a + b * 256) (front_byte 2 (omega arith)) (front_byte 3 (omega arith))

    pub image_nonce : nonce_of (image_at bs f l) ≡ nonce_of (get_or bs f [])
    image_nonce =
        let n : length (image_at bs f l) ≡ l = image_length bs w f l h in
        let b : length (get_or bs f []) ≡ 512 = w f (omega arith) in
        let c : length (nonce_of (image_at bs f l)) ≡ 8 = length-take 8 (drop 4 (image_at bs f l)) ∙ omega (arith, length-drop 4 (image_at bs f l)) in
        let d : length (nonce_of (get_or bs f [])) ≡ 8 = length-take 8 (drop 4 (get_or bs f [])) ∙ omega (arith, length-drop 4 (get_or bs f [])) in
        let byte : ℕ → ℕ = λ k. get_or (get_or bs f []) (4 + k) 0 in
        fill_by_all byte (nonce_of (image_at bs f l)) 8 0 c (λ k lt.
        get_or-take 8 (drop 4 (image_at bs f l)) k 0 lt ∙ (get_or-drop 4 (image_at bs f l) k 0 ∙ front_byte (4 + k) (omega arith)))
        ∙ sym (fill_by_all byte (nonce_of (get_or bs f [])) 8 0 d (λ k lt. get_or-take 8 (drop 4 (get_or bs f [])) k 0 lt ∙ get_or-drop 4 (get_or bs f []) k 0))

    -- bytes that were read one by one are the vectors
    pub image_vectors : (bytes : List ℕ) → length bytes ≡ 32
        → ((k : ℕ) → k < 32 → get_or bytes k 0 ≡ get_or (get_or bs (f + (l - 32 + k) / 512) []) ((l - 32 + k) % 512) 0)
        → bytes ≡ vectors_of (image_at bs f l)
    image_vectors bytes many each =
        let n : length (image_at bs f l) ≡ l = image_length bs w f l h in
        let c : length (vectors_of (image_at bs f l)) ≡ 32 = length-drop (length (image_at bs f l) - 32) (image_at bs f l) ∙ omega arith in
        let byte : ℕ → ℕ = λ k. get_or (image_at bs f l) (length (image_at bs f l) - 32 + k) 0 in
        fill_by_all byte bytes 32 0 many (λ k lt.
        each k lt ∙ sym (ap (λ (j : ℕ). get_or (image_at bs f l) (j - 32 + k) 0) n ∙ image_byte (l - 32 + k) (omega arith)))
        ∙ sym (fill_by_all byte (vectors_of (image_at bs f l)) 32 0 c (λ k lt. get_or-drop (length (image_at bs f l) - 32) (image_at bs f l) k 0))

    -- the vectors lie in one block
    pub tail_in_one : (bytes block : List ℕ) (from n : ℕ) → from ≡ (l - 32) % 512 → n ≡ 32 → from ≤ 480 → block ≡ get_or bs (f + (l - 32) / 512) []
        → bytes ≡ take n (drop from block) → bytes ≡ vectors_of (image_at bs f l)
    tail_in_one bytes block from n at count few held is =
        let size : length block ≡ 512 = ap length held ∙ w (f + (l - 32) / 512) (omega arith) in
        let many : length bytes ≡ 32 = ap length is ∙ (length-take n (drop from block) ∙ omega (arith, length-drop from block)) in
        image_vectors bytes many (λ k lt.
        let block_of : (l - 32 + k) / 512 ≡ (l - 32) / 512 = omega arith in
        let place_of : (l - 32 + k) % 512 ≡ from + k = omega arith in
        ap (λ (xs : List ℕ). get_or xs k 0) is ∙ (get_or-take n (drop from block) k 0 (omega arith) ∙ (get_or-drop from block k 0
        ∙ (ap (λ (xs : List ℕ). get_or xs (from + k) 0) held ∙ sym (ap₂ (λ (b j : ℕ). get_or (get_or bs (f + b) []) j 0) block_of place_of)))))

    -- they lie in two blocks
    pub tail_in_two : (front back block next : List ℕ) (from n : ℕ) → from ≡ (l - 32) % 512 → 480 < from → n ≡ from + 32 - 512
        → block ≡ get_or bs (f + (l - 32) / 512) [] → next ≡ get_or bs (f + (l - 32) / 512 + 1) []
        → front ≡ take (512 - from) (drop from block) → back ≡ take n next → front ++ back ≡ vectors_of (image_at bs f l)
    tail_in_two front back block next from n at many_more count held held_next is is_back =
        let size : length block ≡ 512 = ap length held ∙ w (f + (l - 32) / 512) (omega arith) in
        let size_next : length next ≡ 512 = ap length held_next ∙ w (f + (l - 32) / 512 + 1) (omega arith) in
        let long_front : length front ≡ 512 - from = ap length is ∙ (length-take (512 - from) (drop from block) ∙ omega (arith, length-drop from block)) in
        let long_back : length back ≡ n = ap length is_back ∙ (length-take n next ∙ omega arith) in
        let many : length (front ++ back) ≡ 32 = length-append front back ∙ omega arith in
        image_vectors (front ++ back) many (λ k lt. elim (dec_le (512 - from) k) [
          | no few ↦
              let block_of : (l - 32 + k) / 512 ≡ (l - 32) / 512 = omega arith in
              let place_of : (l - 32 + k) % 512 ≡ from + k = omega arith in
              get_or_append_left front back 0 k (omega (arith, few)) ∙ (ap (λ (xs : List ℕ). get_or xs k 0) is ∙ (get_or-take (512 - from) (drop from block) k 0 (omega (arith, few)) ∙ (get_or-drop from block k 0
              ∙ (ap (λ (xs : List ℕ). get_or xs (from + k) 0) held ∙ sym (ap₂ (λ (b j : ℕ). get_or (get_or bs (f + b) []) j 0) block_of place_of)))))
          | yes enough ↦
              let block_of : f + (l - 32 + k) / 512 ≡ f + (l - 32) / 512 + 1 = omega arith in
              let place_of : (l - 32 + k) % 512 ≡ k - (512 - from) = omega arith in
              get_or-append_right front back (512 - from) k 0 long_front enough ∙ (ap (λ (xs : List ℕ). get_or xs (k - (512 - from)) 0) is_back
              ∙ (get_or-take n next (k - (512 - from)) 0 (omega arith)
              ∙ (ap (λ (xs : List ℕ). get_or xs (k - (512 - from)) 0) held_next ∙ sym (ap₂ (λ (b j : ℕ). get_or (get_or bs b []) j 0) block_of place_of))))
        ])
