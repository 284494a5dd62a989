-- Control blocks by their parts: what is held with its fill, and the two bytes of the check.
use Rattle.std.proofs.Common.{◌≡◌, ℕ, zero, suc, ◌==◌, rules, tests, ◌+◌, ◌-◌, ◌/◌, ◌%◌, ◌≤◌, Bool, true, false, List, [], ◌∷◌, ◌++◌, length, get_or, take, drop, set, replicate, Decides, sym, refl, ap, ◌∙◌, arith}
use borrow.Rule.Slice.PartMut.{put_mid}
use Rattle.std.proofs.lemmas.List.{take-append-drop, length-take, length-drop, drop_more, drop_all, length-append, length-replicate, length-take-le, take_at, get_or_at, get_or-append_right, length-set, take-set, take-set-le, get_or-set_same, get_or-set_other, take-take, drop-take, append_cancel_left}
use Rattle.std.proofs.lemmas.Slice.{take-put_mid}
use Rattle.std.proofs.lemmas.Bool.{false≢true}
use Rattle.std.specs.List.{list_all}
use Rattle.control.specs.Crc.{crc_of}
use Rattle.control.specs.Blocks.{body, formed, Filled, Checked}

pub length-body : (held : List ℕ) → length held ≤ 510 → length (body held) ≡ 510
length-body held le = omega (arith, length-append held (replicate (510 - length held) 0), length-replicate {A = ℕ} (510 - length held) 0)

-- the last two of 512 bytes
pub last_two : (ys : List ℕ) → length ys ≡ 512 → drop 510 ys ≡ get_or ys 510 0 ∷ get_or ys 511 0 ∷ []
last_two ys e =
    drop_more ys 510 0 (omega arith)
    ∙ ap (λ (l : List ℕ). get_or ys 510 0 ∷ l) (drop_more ys 511 0 (omega arith) ∙ ap (λ (l : List ℕ). get_or ys 511 0 ∷ l) (drop_all 512 ys (omega arith)))

-- 512 bytes with the right fill and check are the block that holds the first of them
pub formed_from_parts : (held ys : List ℕ) → length ys ≡ 512 → take 510 ys ≡ body held
    → get_or ys 510 0 ≡ crc_of (take 510 ys) / 256 → get_or ys 511 0 ≡ crc_of (take 510 ys) % 256 → ys ≡ formed held
unfolding formed
formed_from_parts held ys e b high low =
    let split : ys ≡ take 510 ys ++ (get_or ys 510 0 ∷ get_or ys 511 0 ∷ []) = sym (take-append-drop 510 ys) ∙ ap (λ (l : List ℕ). take 510 ys ++ l) (last_two ys e) in
    split ∙ rw (high, low, b) refl

-- and the other way round
pub formed_body : (held : List ℕ) → length held ≤ 510 → take 510 (formed held) ≡ body held
unfolding formed
formed_body held le = take_at (body held) _ 510 (length-body held le)

pub formed_high : (held : List ℕ) → length held ≤ 510 → get_or (formed held) 510 0 ≡ crc_of (body held) / 256
unfolding formed
formed_high held le = get_or_at (body held) _ _ 0 510 (length-body held le)

pub formed_low : (held : List ℕ) → length held ≤ 510 → get_or (formed held) 511 0 ≡ crc_of (body held) % 256
unfolding formed
formed_low held le = get_or-append_right (body held) _ 510 511 0 (length-body held le) (omega arith)

pub length-formed : (held : List ℕ) → length held ≤ 510 → length (formed held) ≡ 512
unfolding formed
length-formed held le = omega (arith, length-append (body held) (crc_of (body held) / 256 ∷ crc_of (body held) % 256 ∷ []), length-body held le)

-- what is laid at the start of a block, and what fills the rest of it up to the check
pub laid : (held hs rest zs : List ℕ) → hs ≡ held → length held ≤ 510 → length (hs ++ rest) ≡ 512
    → zs ≡ replicate (length (take (510 - length held) (drop (length held) (hs ++ rest)))) 0
    → take 510 (put_mid (length held) (510 - length held) (hs ++ rest) zs) ≡ body held
laid held hs rest zs h le len z =
    let room : length (take (510 - length held) (drop (length held) (hs ++ rest))) ≡ 510 - length held =
    simp (length-take, length-drop) (omega arith) in
    let zeros : zs ≡ replicate (510 - length held) 0 = z ∙ ap (λ (n : ℕ). replicate n 0) room in
    let count : length zs ≡ 510 - length held = ap length zeros ∙ length-replicate {A = ℕ} (510 - length held) 0 in
    let front : take (length held) (hs ++ rest) ≡ held = rw h (take_at held rest (length held) refl) in
    take-put_mid (length held) (510 - length held) (hs ++ rest) zs 510 (omega arith) (omega arith) ∙ rw (front, zeros) refl

-- the check is written behind them
pub checked : (held ys : List ℕ) → length ys ≡ 512 → take 510 ys ≡ body held
    → set (set ys 510 (crc_of (take 510 ys) / 256)) 511 (crc_of (take 510 ys) % 256) ≡ formed held
checked held ys e b =
    let high : ℕ = crc_of (take 510 ys) / 256 in
    let low : ℕ = crc_of (take 510 ys) % 256 in
    let zs : List ℕ = set (set ys 510 high) 511 low in
    let n1 : length (set ys 510 high) ≡ 512 = length-set ys 510 high ∙ e in
    let n : length zs ≡ 512 = length-set (set ys 510 high) 511 low ∙ n1 in
    let t : take 510 zs ≡ take 510 ys = take-set-le 510 (set ys 510 high) 511 low (omega arith) ∙ take-set ys 510 high in
    let at_high : get_or zs 510 0 ≡ high = get_or-set_other (set ys 510 high) 511 510 low 0 (omega arith) ∙ get_or-set_same ys 510 high 0 (omega arith) in
    let at_low : get_or zs 511 0 ≡ low = get_or-set_same (set ys 510 high) 511 low 0 (omega arith) in
    formed_from_parts held zs n (t ∙ b) (at_high ∙ ap (λ (xs : List ℕ). crc_of xs / 256) (sym t)) (at_low ∙ ap (λ (xs : List ℕ). crc_of xs % 256) (sym t))

pub split_fill : (n : ℕ) (block : List ℕ) → n ≤ 510 → take 510 block ≡ take n block ++ take (510 - n) (drop n block)
split_fill n block le =
    let e : n + (510 - n) ≡ 510 = omega arith in
    sym (take-append-drop n (take 510 block))
    ∙ ap (λ (l : List ℕ). l ++ drop n (take 510 block)) (take-take n 510 block le)
    ∙ ap (λ (l : List ℕ). take n block ++ l) (ap (λ (m : ℕ). drop n (take m block)) (sym e) ∙ drop-take n (510 - n) block)

-- zeros, and only zeros, pass the test of each byte
zeros_from_all : (bytes : List ℕ) → list_all (λ b. b == 0) bytes ≡ true → bytes ≡ replicate (length bytes) 0
zeros_from_all [] e = refl
zeros_from_all (b ∷ bytes) e =
    let head : b ≡ 0 = search (rules, tests) in
    let rest : list_all (λ b. b == 0) bytes ≡ true = search (rules, tests) in
    ap (λ x. x ∷ bytes) head ∙ ap (λ l. 0 ∷ l) (zeros_from_all bytes rest)

all_zeros : (n : ℕ) → list_all (λ b. b == 0) (replicate n 0) ≡ true
all_zeros zero = refl
all_zeros (suc n) = all_zeros n

pub filled_from_zeros : (n : ℕ) (block : List ℕ) → n ≤ 510 → length block ≡ 512
    → take (510 - n) (drop n block) ≡ replicate (510 - n) 0 → Filled n block
filled_from_zeros n block le len zeros =
    let front : length (take n block) ≡ n = length-take-le n block (omega arith) in
    split_fill n block le ∙ ap (λ (l : List ℕ). take n block ++ l) zeros ∙ ap (λ (m : ℕ). take n block ++ replicate (510 - m) 0) (sym front)

pub zeros_from_filled : (n : ℕ) (block : List ℕ) → n ≤ 510 → length block ≡ 512 → Filled n block
    → take (510 - n) (drop n block) ≡ replicate (510 - n) 0
zeros_from_filled n block le len filled =
    let front : length (take n block) ≡ n = length-take-le n block (omega arith) in
    append_cancel_left (take n block) _ _
    (sym (split_fill n block le) ∙ filled ∙ ap (λ (m : ℕ). take n block ++ replicate (510 - m) 0) front)

pub decides_all : (n : ℕ) (block : List ℕ) (r : Bool) → n ≤ 510 → length block ≡ 512
    → r ≡ list_all (λ b. b == 0) (take (510 - n) (drop n block)) → Decides r (Filled n block)
decides_all n block r le len e =
    let room : length (take (510 - n) (drop n block)) ≡ 510 - n = simp (length-take, length-drop) (omega arith) in (
      (λ t. filled_from_zeros n block le len (zeros_from_all _ (sym e ∙ t) ∙ ap (λ (m : ℕ). replicate m 0) room)),
      (λ f. e ∙ ap (list_all (λ b. b == 0)) (zeros_from_filled n block le len f) ∙ all_zeros (510 - n)),
    )

-- a block stands when its fill and its check are right
pub formed_from_both : (n : ℕ) (block : List ℕ) → n ≤ 510 → length block ≡ 512 → Filled n block → Checked block → block ≡ formed (take n block)
formed_from_both n block le len filled check = formed_from_parts (take n block) block len filled check.0 check.1

pub filled_from_formed : (n : ℕ) (block : List ℕ) → n ≤ 510 → length block ≡ 512 → block ≡ formed (take n block) → Filled n block
filled_from_formed n block le len e =
    let front : length (take n block) ≡ n = length-take-le n block (omega arith) in
    ap (λ (l : List ℕ). take 510 l) e ∙ formed_body (take n block) (omega arith)

pub checked_from_formed : (n : ℕ) (block : List ℕ) → n ≤ 510 → length block ≡ 512 → block ≡ formed (take n block) → Checked block
checked_from_formed n block le len e =
    let front : length (take n block) ≡ n = length-take-le n block (omega arith) in
    let filled = filled_from_formed n block le len e in (
      ap (λ (l : List ℕ). get_or l 510 0) e ∙ formed_high (take n block) (omega arith) ∙ ap (λ (l : List ℕ). crc_of l / 256) (sym filled),
      ap (λ (l : List ℕ). get_or l 511 0) e ∙ formed_low (take n block) (omega arith) ∙ ap (λ (l : List ℕ). crc_of l % 256) (sym filled),
    )

-- a block with the right fill stands by its check; one without it does not stand
pub decides_filled : (n : ℕ) (block : List ℕ) (a b : Bool) → n ≤ 510 → length block ≡ 512
    → Decides a (Filled n block) → a ≡ true → Decides b (Checked block) → Decides b (block ≡ formed (take n block))
decides_filled n block a b le len filled e check = (
  (λ t. formed_from_both n block le len (filled.0 e) (check.0 t)),
  (λ f. check.1 (checked_from_formed n block le len f)),
)

pub decides_unfilled : (n : ℕ) (block : List ℕ) (a : Bool) → n ≤ 510 → length block ≡ 512
    → Decides a (Filled n block) → a ≡ false → Decides false (block ≡ formed (take n block))
decides_unfilled n block a le len filled e = (
  (λ t. absurd (false≢true t)),
  (λ f. sym e ∙ filled.1 (filled_from_formed n block le len f)),
)
