-- The last block of a message, from the bytes that are left of it.
use Rattle.std.proofs.Common.{◌≡◌, ℕ, ◌<◌, ◌≤◌, List, length, take, sym, ap, ◌∙◌, arith}
use Rattle.std.proofs.lemmas.List.{take_all, length-take-le}
use Rattle.std.proofs.lemmas.Bool.{eq-eqb, ne_eqb, cond-true, cond-false}
use Rattle.cmac.specs.Blocks.{xored}
use Rattle.cmac.specs.Cmac.{subkey1, subkey2, padding, last}

-- less than a block is left
pub last_part : (key block second rest r : List ℕ) (used : ℕ) → length block ≡ 16 → used < 16 → second ≡ subkey2 key
    → rest ≡ padding (take used block) → r ≡ xored rest second → r ≡ last key (take used block)
unfolding last
last_part key block second rest r used long h e f g =
    let some : length (take used block) ≡ used = length-take-le used block (omega arith) in
    let part : last key (take used block) ≡ xored (padding (take used block)) (subkey2 key) =
    cond-false _ _ _ (ne_eqb (length (take used block)) 16 (λ z. omega arith)) in
    g ∙ ap (xored rest) e ∙ ap (λ b. xored b (subkey2 key)) f ∙ sym part

-- a block is left
pub last_whole : (key block first r : List ℕ) (used : ℕ) → length block ≡ 16 → 16 ≤ used → first ≡ subkey1 key
    → r ≡ xored block first → r ≡ last key (take used block)
unfolding last
last_whole key block first r used long h e f =
    let all : take used block ≡ block = take_all used block (omega arith) in
    let whole : last key block ≡ xored block (subkey1 key) = cond-true _ _ _ (eq-eqb (length block) 16 long) in
    f ∙ ap (xored block) e ∙ sym whole ∙ ap (last key) (sym all)
