-- The last blocks of a message, and its digest.
use Rattle.std.proofs.Common.{◌≡◌, ℕ, suc, ◌+◌, ◌-◌, ◌%◌, ◌<◌, ◌≤◌, List, map, [], ◌∷◌, ◌++◌, length, take, drop, set, replicate, sym, refl, ap, ◌∙◌, append_assoc, append-nil, arith, length-append, take_all, drop-drop}
use borrow.Rule.Slice.PartMut.{put_mid}
use Rattle.std.specs.List.{flat_map}
use lib.ListN.{length-replicate, replicate-append-replicate}
use lib.Seq.{set_at, take-append-add}
use Rattle.std.proofs.lemmas.List.{drop_all, take-replicate, drop-replicate}
use Rattle.sha256.specs.Compression.{compressed}
use Rattle.sha256.specs.Hash.{bytes4, bytes8, digest, padding, chained, finished}
use Rattle.sha256.proofs.Blocks.{chained_block, length-padding}

-- the end of a message written into a block of zeros, and the byte 0x80 behind it
pub marked_written : (rest xs : List ℕ) → xs ≡ rest → length rest < 64
    → set (xs ++ drop (length rest) (replicate 64 0)) (length rest) 0x80 ≡ rest ++ 0x80 ∷ replicate (63 - length rest) 0
marked_written rest xs e l =
    let n : 64 - length rest ≡ suc (63 - length rest) = omega arith in
    rw (e, drop-replicate {X = ℕ} (length rest) 64 0, n) (set_at rest 0 (replicate (63 - length rest) 0) 0x80 (length rest) refl)

-- eight bytes written at the end of a block
pub counted_written : (block xs : List ℕ) (bits : ℕ) → length block ≡ 64 → xs ≡ bytes8 bits
    → put_mid 56 8 block xs ≡ take 56 block ++ bytes8 bits
counted_written block xs bits l e =
    let none : drop 8 (drop 56 block) ≡ [] = drop-drop 8 56 block ∙ drop_all 64 block (omega arith) in
    rw (none, append-nil, e) refl

-- what is left of a message with its padding, where one block holds both
pub padded-one : (rest : List ℕ) (bits : ℕ) → length rest < 56
    → rest ++ padding (length rest) bits ≡ take 56 (rest ++ 0x80 ∷ replicate (63 - length rest) 0) ++ bytes8 bits
unfolding padding
padded-one rest bits l =
    let n = length rest in
    let zeros = replicate {A = ℕ} (63 - n) 0 in
    let count : (119 - n % 64) % 64 ≡ 55 - n = omega arith in
    let place : 56 ≡ n + suc (55 - n) = omega arith in
    let front : take 56 (rest ++ 0x80 ∷ zeros) ≡ rest ++ 0x80 ∷ replicate (55 - n) 0 =
    ap (λ (k : ℕ). take k (rest ++ 0x80 ∷ zeros)) place ∙ take-append-add rest (0x80 ∷ zeros) (suc (55 - n))
    ∙ rw (take-replicate {X = ℕ} (55 - n) (63 - n) 0 (omega arith)) refl in
    rw (front, append_assoc, count) refl

-- and where it takes two
pub padded-two : (rest : List ℕ) (bits : ℕ) → 56 ≤ length rest → length rest < 64
    → rest ++ padding (length rest) bits ≡ (rest ++ 0x80 ∷ replicate (63 - length rest) 0) ++ (replicate 56 0 ++ bytes8 bits)
unfolding padding
padded-two rest bits g l =
    let n = length rest in
    let count : (119 - n % 64) % 64 ≡ (63 - n) + 56 = omega arith in
    rw (append_assoc, count, ← replicate-append-replicate {A = ℕ} (63 - n) 56 0, append_assoc) refl

-- the hash of a message whose end and padding are one block
finished_one : (h rest last : List ℕ) (bits : ℕ) → rest ++ padding (length rest) bits ≡ last → length last ≡ 64
    → finished h rest bits ≡ digest (compressed h last)
unfolding finished chained
finished_one h rest last bits e l = rw (e, l, take_all 64 last (omega arith)) refl

-- and where they are two
finished_two : (h rest block last : List ℕ) (bits : ℕ) → rest ++ padding (length rest) bits ≡ block ++ last
    → length block ≡ 64 → length last ≡ 64 → finished h rest bits ≡ digest (compressed (compressed h block) last)
unfolding finished chained
finished_two h rest block last bits e l m =
    let n : length (block ++ last) ≡ 128 = omega (arith, length-append block last) in
    rw (e, n, chained_block 1 h block last l, take_all 64 last (omega arith)) refl

-- the hash of a message whose marked block takes the count too
pub closed_one : (h rest block last : List ℕ) (bits : ℕ) → length rest < 56 → block ≡ rest ++ 0x80 ∷ replicate (63 - length rest) 0
    → last ≡ take 56 block ++ bytes8 bits → digest (compressed h last) ≡ finished h rest bits
closed_one h rest block last bits l b e =
    let p : rest ++ padding (length rest) bits ≡ last = padded-one rest bits l ∙ rw (← b) (sym e) in
    let n : length last ≡ 64 =
    omega (arith, ap length p, length-append rest (padding (length rest) bits), length-padding (length rest) bits) in
    sym (finished_one h rest last bits p n)

-- and of one whose count goes into a block of its own
pub closed_two : (h rest block last : List ℕ) (bits : ℕ) → 56 ≤ length rest → length rest < 64
    → block ≡ rest ++ 0x80 ∷ replicate (63 - length rest) 0 → last ≡ take 56 (replicate 64 0) ++ bytes8 bits
    → digest (compressed (compressed h block) last) ≡ finished h rest bits
closed_two h rest block last bits g l b e =
    let p : rest ++ padding (length rest) bits ≡ block ++ last = padded-two rest bits g l ∙ rw (b, e) refl in
    let n : length block ≡ 64 =
    omega (arith, ap length b, length-append rest (0x80 ∷ replicate (63 - length rest) 0), length-replicate {A = ℕ} (63 - length rest) 0) in
    sym (finished_two h rest block last bits p n (ap length e))

-- the words as bytes, one after another
pub digest_joined : (ws : List ℕ) → flat_map (λ b. b) (map bytes4 ws) ≡ digest ws
unfolding digest
digest_joined [] = refl
digest_joined (w ∷ ws) = ap (λ (ys : List ℕ). bytes4 w ++ ys) (digest_joined ws)
