-- A message taken block by block, and the lengths of what comes out.
use Rattle.std.proofs.Common.{◌≡◌, ℕ, zero, suc, ◌+◌, ◌-◌, ◌*◌, ◌/◌, ◌%◌, ◌≤◌, List, [], ◌∷◌, ◌++◌, length, take, drop, replicate, sym, refl, ap, ◌∙◌, append_assoc, add-one, arith, lit<, length-append, length-drop, take-append-drop, length-take-le, drop-drop, take_at, drop_at}
use native.Mathlib.Nat.{add-mod_left, add-div_left}
use lib.ListN.{length-replicate}
use Rattle.sha256.specs.Compression.{compressed, added}
use Rattle.sha256.specs.Hash.{initial, bytes8, digest, padding, chained, finished, sha256}

-- the first of some blocks is compressed first
pub chained_block : (n : ℕ) (h b xs : List ℕ) → length b ≡ 64 → chained (suc n) h (b ++ xs) ≡ chained n (compressed h b) xs
unfolding chained
chained_block n h b xs e = rw (take_at b xs 64 e, drop_at b xs 64 e) refl

-- the padding does not depend on the whole blocks before
pub padding_block : (n bits : ℕ) → padding (64 + n) bits ≡ padding n bits
unfolding padding
padding_block n bits = rw (add-mod_left 64 n) refl

-- a message with its padding, without its first block, is the rest with the rest's own padding
padded-block : (b xs : List ℕ) (bits : ℕ) → length b ≡ 64
    → (b ++ xs) ++ padding (length (b ++ xs)) bits ≡ b ++ (xs ++ padding (length xs) bits)
padded-block b xs bits e = rw (length-append b xs, e, padding_block, append_assoc) refl

-- a message's first block can be compressed ahead of the rest
pub finished_block : (h b xs : List ℕ) (bits : ℕ) → length b ≡ 64 → finished h (b ++ xs) bits ≡ finished (compressed h b) xs bits
unfolding finished
finished_block h b xs bits e =
    let q = xs ++ padding (length xs) bits in
    let n : length (b ++ q) / 64 ≡ suc (length q / 64) = rw (length-append b q, e) (add-div_left (length q) (lit< tt) ∙ add-one (length q / 64)) in
    rw (padded-block b xs bits e, n, chained_block (length q / 64) h b q e) refl

-- the same of a message that is not yet cut
pub finished_front : (h xs : List ℕ) (bits : ℕ) → 64 ≤ length xs → finished h xs bits ≡ finished (compressed h (take 64 xs)) (drop 64 xs) bits
finished_front h xs bits l =
    ap (λ (m : List ℕ). finished h m bits) (sym (take-append-drop 64 xs)) ∙ finished_block h (take 64 xs) (drop 64 xs) bits (length-take-le 64 xs l)

-- and of its first n blocks
pub finished_blocks : (n : ℕ) (h xs : List ℕ) (bits : ℕ) → 64 * n ≤ length xs
    → finished h xs bits ≡ finished (chained n h xs) (drop (64 * n) xs) bits
unfolding chained
finished_blocks zero h xs bits l = refl
finished_blocks (suc n) h xs bits l =
    let m : 64 * n ≤ length (drop 64 xs) = rw (length-drop 64 xs) (omega arith) in
    let k : 64 + 64 * n ≡ 64 * suc n = omega arith in
    finished_front h xs bits (omega arith) ∙ finished_blocks n (compressed h (take 64 xs)) (drop 64 xs) bits m ∙ rw (drop-drop, k) refl

-- a chaining value has eight words, after one block and after any number of them
pub length-compressed : (s b : List ℕ) → length (compressed s b) ≡ 8
unfolding compressed added
length-compressed s b = refl

pub length-chained : (n : ℕ) (h m : List ℕ) → length h ≡ 8 → length (chained n h m) ≡ 8
unfolding chained
length-chained zero h m e = e
length-chained (suc n) h m e = length-chained n (compressed h (take 64 m)) (drop 64 m) (length-compressed h (take 64 m))

-- a digest has four bytes for each word
pub length-digest : (h : List ℕ) → length (digest h) ≡ 4 * length h
unfolding digest
length-digest [] = refl
length-digest (w ∷ ws) = omega (arith, length-digest ws)

-- the padding has a byte 0x80, its zeros and eight bytes for the count
pub length-padding : (n bits : ℕ) → length (padding n bits) ≡ 9 + (119 - n % 64) % 64
unfolding padding
length-padding n bits =
    let z = (119 - n % 64) % 64 in
    omega (arith, length-append (replicate z 0) (bytes8 bits), length-replicate {A = ℕ} z 0)

-- a hash has 32 bytes
pub length-finished : (h rest : List ℕ) (bits : ℕ) → length (finished h rest bits) ≡ 32
unfolding finished chained
length-finished h rest bits =
    let p = rest ++ padding (length rest) bits in
    let l = length-append rest (padding (length rest) bits) in
    let some : suc (length p / 64 - 1) ≡ length p / 64 = omega (arith, l, length-padding (length rest) bits) in
    let eight : length (chained (suc (length p / 64 - 1)) h p) ≡ 8 =
    length-chained (length p / 64 - 1) (compressed h (take 64 p)) (drop 64 p) (length-compressed h (take 64 p)) in
    length-digest (chained (length p / 64) h p) ∙ ap (λ (n : ℕ). 4 * n) (rw some at eight)

pub length-sha256 : (m : List ℕ) → length (sha256 m) ≡ 32
unfolding sha256
length-sha256 m = length-finished initial m _
