-- What a control block holds.
use Rattle.std.proofs.Common.{◌≡◌, ℕ, ◌+◌, ◌*◌, ◌/◌, ◌%◌, ◌<◌, ◌≤◌, List, [], ◌∷◌, ◌++◌, length, get_or, take, Some, None, Option, sym, refl, ap, ◌∙◌, ⊎_elim, arith}
use Rattle.std.proofs.lemmas.Slice.Eq.{bytes_eq-Decides}
use Rattle.std.proofs.lemmas.List.{get_or-take, take-append-le, take_at, take_more}
use Rattle.std.proofs.lemmas.Bool.{cases_Bool, cond-true, cond-false}
use Rattle.std.specs.Str.{bytes_eq}
use Rattle.layout.specs.Address.{ermin, ermax}
use Rattle.layout.specs.Image.{word}
use Rattle.layout.specs.declared.place.Place.{Place}
use Rattle.layout.specs.Places.{Between}
use Rattle.control.specs.declared.kind.Control.TheVariants as control
use Rattle.control.specs.declared.kind.Flag.{Flag}
use Rattle.control.specs.declared.kind.Flag.TheVariants.{Finished, Unfinished}
use Rattle.control.specs.Blocks.{body, formed, two, flag_block, flag_in, pointer_to, Stands, Points}
use Rattle.control.specs.Calls.{Pointed}
use Rattle.control.proofs.Formed.{length-body}

-- a formed block begins with what it holds
pub formed_front : (n : ℕ) (held : List ℕ) → length held ≡ n → n ≤ 510 → take n (formed held) ≡ held
unfolding formed
formed_front n held e le =
    let size : length (body held) ≡ 510 = length-body held (omega arith) in
    take-append-le n (body held) _ (omega arith) ∙ take_at held _ n e

pub stands_from_formed : (n : ℕ) (held block : List ℕ) → length held ≡ n → n ≤ 510 → block ≡ formed held → block ≡ formed (take n block)
stands_from_formed n held block e le f = f ∙ ap formed (sym (ap (λ (l : List ℕ). take n l) f ∙ formed_front n held e le))

-- so its first bytes are those
pub get_or-formed : (n k : ℕ) (held block : List ℕ) → length held ≡ n → n ≤ 510 → k < n → block ≡ formed held → get_or block k 0 ≡ get_or held k 0
get_or-formed n k held block e le lt f =
    sym (get_or-take n block k 0 lt) ∙ ap (λ (l : List ℕ). get_or l k 0) (ap (λ (l : List ℕ). take n l) f ∙ formed_front n held e le)

-- the flag reads finished when it stands with 0, and else unfinished
pub take-one : (block : List ℕ) → length block ≡ 512 → take 1 block ≡ get_or block 0 0 ∷ []
take-one block len = take_more block 0 0 (omega arith)

pub reads_finished : (block : List ℕ) → length block ≡ 512 → Stands control.Flag block × (get_or block 0 0 ≡ 0) → Finished ≡ flag_in block
reads_finished block len s =
    let one : block ≡ formed (0 ∷ []) = s.0 ∙ ap formed (take-one block len ∙ ap (λ (x : ℕ). x ∷ []) s.1) in
    sym (cond-true (bytes_eq block (formed (0 ∷ []))) _ _ ((bytes_eq-Decides block (formed (0 ∷ []))).1 one))

pub reads_unfinished : (block : List ℕ) → (Stands control.Flag block × (get_or block 0 0 ≡ 0) → ⊥) → Unfinished ≡ flag_in block
reads_unfinished block not =
    ⊎_elim
    (λ t. let one : block ≡ formed (0 ∷ []) = (bytes_eq-Decides block (formed (0 ∷ []))).0 t in
    absurd (not (stands_from_formed 1 (0 ∷ []) block refl (omega arith) one, get_or-formed 1 0 (0 ∷ []) block refl (omega arith) (omega arith) one)))
    (λ f. sym (cond-false (bytes_eq block (formed (0 ∷ []))) _ _ f))
    (cases_Bool (bytes_eq block (formed (0 ∷ []))))

-- a block that points somewhere stands
pub unpointed : (count : ℕ) (block : List ℕ) → (Stands control.Pointer block → ⊥) → (first len : ℕ) → Points count block first len → ⊥
unpointed count block not first len points =
    not (stands_from_formed 4 (two (ermin first) ++ two (ermax first len)) block refl (omega arith) points.0)

-- the four bytes of a pointer block
pub take_four : (block : List ℕ) → length block ≡ 512 → take 4 block ≡ get_or block 0 0 ∷ get_or block 1 0 ∷ get_or block 2 0 ∷ get_or block 3 0 ∷ []
take_four block len =
    take_more block 3 0 (omega arith)
    ∙ ap (λ (l : List ℕ). l ++ (get_or block 3 0 ∷ [])) (take_more block 2 0 (omega arith)
    ∙ ap (λ (l : List ℕ). l ++ (get_or block 2 0 ∷ [])) (take_more block 1 0 (omega arith)
    ∙ ap (λ (l : List ℕ). l ++ (get_or block 1 0 ∷ [])) (take-one block len)))

-- two bytes and the number that they are
pub two_from_bytes : (a b n : ℕ) → a < 256 → b < 256 → n ≡ a + b * 256 → a ∷ b ∷ [] ≡ two n
two_from_bytes a b n low high e =
    let p : a ≡ n % 256 = omega arith in
    let q : b ≡ n / 256 = omega arith in
    ap (λ (x : ℕ). x ∷ b ∷ []) p ∙ ap (λ (y : ℕ). n % 256 ∷ y ∷ []) q

-- where a block stands, the place between its two addresses is what it points to
pub pointed : (count : ℕ) (block : List ℕ) (min max : ℕ) (o : Option Place) → length block ≡ 512 → Stands control.Pointer block
    → ((k : ℕ) → get_or block k 0 < 256)
    → min ≡ word block 0 → max ≡ word block 2
    → Between count min max o → Pointed count block o
pointed count block min max (Some p) len stands bytes low high between =
    let from : get_or block 0 0 ∷ get_or block 1 0 ∷ [] ≡ two (ermin p.first) =
    two_from_bytes (get_or block 0 0) (get_or block 1 0) (ermin p.first) (bytes 0) (bytes 1) (sym between.0 ∙ low) in
    let to : get_or block 2 0 ∷ get_or block 3 0 ∷ [] ≡ two (ermax p.first p.len) =
    two_from_bytes (get_or block 2 0) (get_or block 3 0) (ermax p.first p.len) (bytes 2) (bytes 3) (sym between.1 ∙ high) in
    let four : take 4 block ≡ two (ermin p.first) ++ two (ermax p.first p.len) =
    take_four block len
    ∙ ap (λ (l : List ℕ). (get_or block 0 0 ∷ get_or block 1 0 ∷ []) ++ l) to
    ∙ ap (λ (l : List ℕ). l ++ two (ermax p.first p.len)) from in
    (stands ∙ ap formed four, between.2)
pointed count block min max None len stands bytes low high between = λ first len' points.
    let held : List ℕ = two (ermin first) ++ two (ermax first len') in
    let at : (k : ℕ) → k < 4 → get_or block k 0 ≡ get_or held k 0 = λ k lt. get_or-formed 4 k held block refl (omega arith) lt points.0 in
    let a : get_or block 0 0 ≡ ermin first % 256 = at 0 (omega arith) in
    let b : get_or block 1 0 ≡ ermin first / 256 = at 1 (omega arith) in
    let c : get_or block 2 0 ≡ ermax first len' % 256 = at 2 (omega arith) in
    let d : get_or block 3 0 ≡ ermax first len' / 256 = at 3 (omega arith) in
    between first len' (omega arith) (omega arith) points.1

-- what is formed reads back
pub flag_reads_back : (f : Flag) → flag_in (flag_block f) ≡ f
flag_reads_back Finished =
    cond-true (bytes_eq (formed (0 ∷ [])) (formed (0 ∷ []))) _ _ ((bytes_eq-Decides (formed (0 ∷ [])) (formed (0 ∷ []))).1 refl)
flag_reads_back Unfinished =
    sym (reads_unfinished (formed (1 ∷ [])) (λ s. absurd (omega (arith, s.1, get_or-formed 1 0 (1 ∷ []) (formed (1 ∷ [])) refl (omega arith) (omega arith) refl))))

four_held : (first len k : ℕ) → k < 4 → get_or (pointer_to first len) k 0 ≡ get_or (two (ermin first) ++ two (ermax first len)) k 0
four_held first len k lt = get_or-formed 4 k (two (ermin first) ++ two (ermax first len)) (pointer_to first len) refl (omega arith) lt refl

pub min_held : (first len : ℕ) → word (pointer_to first len) 0 ≡ ermin first
min_held first len =
    let a : get_or (pointer_to first len) 0 0 ≡ ermin first % 256 = four_held first len 0 (omega arith) in
    let b : get_or (pointer_to first len) 1 0 ≡ ermin first / 256 = four_held first len 1 (omega arith) in
    omega arith

pub max_held : (first len : ℕ) → word (pointer_to first len) 2 ≡ ermax first len
max_held first len =
    let a : get_or (pointer_to first len) 2 0 ≡ ermax first len % 256 = four_held first len 2 (omega arith) in
    let b : get_or (pointer_to first len) 3 0 ≡ ermax first len / 256 = four_held first len 3 (omega arith) in
    omega arith

-- no block points to two places, in stores of any size
pub points_once : (block : List ℕ) (count first len count' first' len' : ℕ) → Points count block first len → Points count' block first' len'
    → (first ≡ first') × (len ≡ len')
points_once block count first len count' first' len' p q =
    let same : pointer_to first len ≡ pointer_to first' len' = sym p.0 ∙ q.0 in
    let low : ermin first ≡ ermin first' = sym (min_held first len) ∙ ap (λ (l : List ℕ). word l 0) same ∙ min_held first' len' in
    let high : ermax first len ≡ ermax first' len' = sym (max_held first len) ∙ ap (λ (l : List ℕ). word l 2) same ∙ max_held first' len' in
    (omega arith, omega arith)
