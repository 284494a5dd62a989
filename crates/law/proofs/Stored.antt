-- What a write to one block leaves of an image in others, and how long what lies in a store is.
use Rattle.std.proofs.Common.{◌≡◌, ℕ, ◌+◌, ◌-◌, ◌*◌, ◌<◌, ◌≤◌, min, ◌≢◌, List, [], ◌∷◌, ◌++◌, length, get_or, take, drop, set, refl, ap, ◌∙◌, ⊎_elim, arith}
use Rattle.std.specs.List.{flat_map, AllByRecursion}
use Rattle.std.proofs.lemmas.List.{length-take, length-drop, length-append, drop-set-lt, drop-set-add, take-set-le, get_or-set_other}
use Rattle.std.proofs.ByRecursion.{All-take, All-drop}
use Rattle.std.proofs.lemmas.Bool.{cases_lt}
use Rattle.layout.specs.Address.{blocks_of, ermin, ermax}
use Rattle.layout.specs.Image.{vectors_of}
use Rattle.layout.specs.Placing.{Fills, Lies}
use Rattle.control.specs.Blocks.{two, pointer_to, flag_byte, flag_block}
use Rattle.control.specs.declared.kind.Flag.{Flag}
use Rattle.control.proofs.Formed.{length-formed}
use Rattle.board.specs.Stored.{image_at}

-- every block has 512 bytes
abbrev pub Sized : List (List ℕ) → Type 0
Sized bs = AllByRecursion (λ (b : List ℕ). length b ≡ 512) bs

-- a write outside an image leaves its bytes
pub image_set : (bs : List (List ℕ)) (b f l : ℕ) (x : List ℕ) → (Fills f l b → ⊥) → image_at (set bs b x) f l ≡ image_at bs f l
unfolding image_at
image_set bs b f l x out =
    ⊎_elim ahead (λ (ge : f ≤ b). ⊎_elim (λ (lt : b < f + blocks_of l). absurd (out (ge, lt))) (behind ge) (cases_lt b (f + blocks_of l))) (cases_lt b f)
  where
    ahead : b < f → take l (flat_map (λ (c : List ℕ). c) (take (blocks_of l) (drop f (set bs b x)))) ≡ take l (flat_map (λ (c : List ℕ). c) (take (blocks_of l) (drop f bs)))
    ahead lt = rw drop-set-lt

    behind : f ≤ b → f + blocks_of l ≤ b → take l (flat_map (λ (c : List ℕ). c) (take (blocks_of l) (drop f (set bs b x)))) ≡ take l (flat_map (λ (c : List ℕ). c) (take (blocks_of l) (drop f bs)))
    behind ge le =
        let e : b ≡ f + (b - f) = omega arith in
        let n : blocks_of l ≤ b - f = omega arith in
        let d : drop f (set bs b x) ≡ set (drop f bs) (b - f) x = ap (λ (k : ℕ). drop f (set bs k x)) e ∙ drop-set-add f bs (b - f) x in
        ap (λ (t : List (List ℕ)). take l (flat_map (λ (c : List ℕ). c) t)) (ap (take (blocks_of l)) d ∙ take-set-le (blocks_of l) (drop f bs) (b - f) x n)

-- blocks of 512 bytes, joined
pub joined_length : (bs : List (List ℕ)) → Sized bs → length (flat_map (λ (c : List ℕ). c) bs) ≡ 512 * length bs
joined_length [] s = refl
joined_length (b ∷ bs) s = length-append b (flat_map (λ (c : List ℕ). c) bs) ∙ omega (arith, s.0, joined_length bs s.1)

-- an image that lies in the store has its length
pub image_length : (bs : List (List ℕ)) (f l : ℕ) → Sized bs → Lies (length bs) f l → length (image_at bs f l) ≡ l
unfolding image_at
image_length bs f l s h =
    let part : List (List ℕ) = take (blocks_of l) (drop f bs) in
    let sz : Sized part = All-take (λ (b : List ℕ). length b ≡ 512) (blocks_of l) (drop f bs) (All-drop (λ (b : List ℕ). length b ≡ 512) f bs s) in
    let many : length part ≡ min (blocks_of l) (length bs - f) = length-take (blocks_of l) (drop f bs) ∙ ap (min (blocks_of l)) (length-drop f bs) in
    let all : length (flat_map (λ (c : List ℕ). c) part) ≡ 512 * length part = joined_length part sz in
    let enough : l ≤ length (flat_map (λ (c : List ℕ). c) part) = omega arith in
    length-take l (flat_map (λ (c : List ℕ). c) part) ∙ omega arith

-- the vectors of an image are 32 bytes
pub vectors_length : (image : List ℕ) → 46 ≤ length image → length (vectors_of image) ≡ 32
vectors_length image h = length-drop (length image - 32) image ∙ omega arith

-- control blocks have 512 bytes
pub pointer_length : (f l : ℕ) → length (pointer_to f l) ≡ 512
pointer_length f l = length-formed (two (ermin f) ++ two (ermax f l)) (omega arith)

-- so has a flag block
pub flag_length : (k : Flag) → length (flag_block k) ≡ 512
flag_length k = length-formed (flag_byte k ∷ []) (omega arith)

-- another block than the one written holds what it held
pub other : (bs : List (List ℕ)) (b c : ℕ) (x y : List ℕ) → c ≢ b → get_or bs c [] ≡ y → get_or (set bs b x) c [] ≡ y
other bs b c x y ne e = get_or-set_other bs b c x [] ne ∙ e
