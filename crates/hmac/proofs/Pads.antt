-- A key pad, formed byte by byte over the key and the zeros behind it.
use Rattle.std.proofs.Common.{◌≡◌, ℕ, ◌-◌, ◌≤◌, List, ◌++◌, map, length, take, drop, replicate, refl, ◌∙◌, arith, length-append}
use lib.Bits.{bit_xor}
use lib.ListN.{length-replicate}
use Rattle.std.proofs.lemmas.List.{length-map, take_all, drop_all, append-nil}
use Rattle.hmac.specs.Hmac.{pad}

-- the bytes of which the mark makes a pad
abbrev pub filled : List ℕ → List ℕ
filled key = key ++ replicate 32 0

pub length-filled : (key : List ℕ) → length key ≡ 32 → length (filled key) ≡ 64
length-filled key e = omega (arith, length-append key (replicate 32 0))

-- all of them are written
pub pad_whole : (mark i : ℕ) (pads key : List ℕ) → length key ≡ 32 → 64 ≤ i
    → pads ≡ map (λ b. bit_xor b mark) (take i (filled key)) ++ drop i (filled key) → pads ≡ pad mark key
unfolding pad
pad_whole mark i pads key e le inv =
    let n : length (filled key) ≡ 64 = length-filled key e in
    let zeros : 64 - length key ≡ 32 = omega arith in
    inv ∙ rw (take_all i (filled key) (omega arith), drop_all i (filled key) (omega arith), append-nil, zeros) refl

pub length-pad : (mark : ℕ) (key : List ℕ) → length key ≡ 32 → length (pad mark key) ≡ 64
unfolding pad
length-pad mark key e =
    let zeros : length (replicate {A = ℕ} (64 - length key) 0) ≡ 64 - length key = length-replicate (64 - length key) 0 in
    length-map (key ++ replicate (64 - length key) 0) (λ b. bit_xor b mark)
    ∙ length-append key (replicate (64 - length key) 0)
    ∙ omega arith
