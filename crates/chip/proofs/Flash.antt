-- NOR flash: the steps of its loops, and what a whole write leaves.
use Rattle.std.proofs.Common.{◌≡◌, ℕ, zero, suc, ◌+◌, ◌-◌, ◌<◌, ◌≤◌, Bool, true, false, List, [], ◌∷◌, length, get_or, take, set, replicate, min, not, true≢false, Some, None, Option, ◌||◌, ◌==◌, sym, refl, ap, ◌∙◌, add-one, arith, eqb-true}
use lib.Bits.{bit_and}
use Rattle.std.proofs.lemmas.Nat.{and_comm, and_mask}
use Rattle.std.proofs.lemmas.List.{get_or-take}
use Rattle.std.specs.Option.{SomeIff}
use Rattle.chip.specs.Chip.{rises, programmed, operations, worked, chip_cutting}
use Rattle.store.specs.Bank.{Ending}
use Rattle.store.specs.Memory.{filled}
use Rattle.store.proofs.Residues.{length-filled}

-- one byte more is programmed
programmed_suc : (i : ℕ) (old new : List ℕ) → i < length old → i < length new
    → set (programmed i old new) i (bit_and (get_or (programmed i old new) i 0) (get_or new i 0)) ≡ programmed (suc i) old new
unfolding programmed
programmed_suc i [] new h k = absurd (omega arith)
programmed_suc i (o ∷ old) [] h k = absurd (omega arith)
programmed_suc zero (o ∷ old) (n ∷ new) h k = refl
programmed_suc (suc i) (o ∷ old) (n ∷ new) h k = ap (λ r. bit_and o n ∷ r) (programmed_suc i old new (omega arith) (omega arith))

-- with no byte programmed, the block is as it was
pub programmed-none : (old new : List ℕ) → old ≡ programmed 0 old new
unfolding programmed
programmed-none old new = refl

-- the same of a part that a loop has come to
pub programmed-more : (part old new : List ℕ) (count i : ℕ) → i < count → i < length old → i < length new → part ≡ programmed i old new
    → set part i (bit_and (get_or part i 0) (get_or (take count new) i 0)) ≡ programmed (i + 1) old new
programmed-more part old new count i f h k e = rw (e, add-one, get_or-take count new i 0 f) (programmed_suc i old new h k)

-- programming keeps the length
length-programmed : (k : ℕ) (old new : List ℕ) → length (programmed k old new) ≡ length old
unfolding programmed
length-programmed zero old new = refl
length-programmed (suc k) [] new = refl
length-programmed (suc k) (o ∷ old) [] = refl
length-programmed (suc k) (o ∷ old) (n ∷ new) = ap suc (length-programmed k old new)

-- and so do all operations
length-worked : (erases : Bool) (k : ℕ) (old new : List ℕ) → length old ≡ 512 → length (worked erases k old new) ≡ 512
length-worked true zero old new e = e
length-worked true (suc k) old new e = length-programmed k (filled 255) new ∙ length-filled 255
length-worked false k old new e = length-programmed k old new ∙ e

-- no bit rises: not in the first byte, and not after it
tested : (same rest : Bool) → not same || rest ≡ false → (same ≡ true) × (rest ≡ false)
tested true rest e = (refl, e)
tested false rest e = absurd (true≢false e)

-- no bit must rise: programming all bytes gives the new ones
programmed-over : (old new : List ℕ) → length old ≡ length new → rises old new ≡ false → programmed (length new) old new ≡ new
unfolding programmed
programmed-over [] [] e fits = refl
programmed-over [] (n ∷ new) e fits = absurd (omega arith)
programmed-over (o ∷ old) [] e fits = absurd (omega arith)
programmed-over (o ∷ old) (n ∷ new) e fits =
    let q = tested (bit_and o n == n) (rises old new) fits in
    let here : bit_and o n ≡ n = eqb-true (bit_and o n) n q.0 in
    let later : programmed (length new) old new ≡ new = programmed-over old new (omega arith) q.1 in
    cc

-- a byte programmed over FF hex
and_erased : (n : ℕ) → n < 256 → bit_and 255 n ≡ n
and_erased n h = and_comm 255 n ∙ and_mask n 8 ∙ omega arith

-- all bits are 1: programming all bytes gives the new ones
programmed_erased : (new : List ℕ) → ((i : ℕ) → get_or new i 0 < 256) → programmed (length new) (replicate (length new) 255) new ≡ new
unfolding programmed
programmed_erased [] fits = refl
programmed_erased (n ∷ new) fits =
    let here : bit_and 255 n ≡ n = and_erased n (fits 0) in
    let later : programmed (length new) (replicate (length new) 255) new ≡ new = programmed_erased new (λ i. fits (suc i)) in
    cc

-- a whole write leaves the new bytes
pub worked_whole : (erases : Bool) (old new : List ℕ) → length old ≡ 512 → length new ≡ 512 → ((i : ℕ) → get_or new i 0 < 256) → erases ≡ rises old new
    → worked erases (operations erases) old new ≡ new
unfolding filled
worked_whole true old new o n fits e = ap (λ m. programmed m (replicate m 255) new) (sym n) ∙ programmed_erased new fits
worked_whole false old new o n fits e = ap (λ m. programmed m old new) (sym n) ∙ programmed-over old new (o ∙ sym n) (sym e)

-- an erasure is the first operation
pub worked_erased : (erases : Bool) (count : ℕ) (old new left : List ℕ) → erases ≡ true → 0 < count → left ≡ programmed (count - 1) (replicate 512 255) new
    → left ≡ worked erases count old new
unfolding filled
worked_erased erases zero old new left e some is = absurd (omega arith)
worked_erased erases (suc k) old new left e some is = rw e (is ∙ ap (λ n. programmed n (replicate 512 255) new) (omega arith))

-- how a write ends that has done as many operations as its plan and its need both have
pub ends : (plan needed : ℕ) (erases : Bool) (old new left : List ℕ) (rest : Option ℕ) → erases ≡ rises old new → needed ≡ operations erases
    → length old ≡ 512 → length new ≡ 512 → ((i : ℕ) → get_or new i 0 < 256) → SomeIff rest (needed ≤ plan) (plan - needed)
    → left ≡ worked erases (min plan needed) old new → Ending chip_cutting plan old new rest left
ends plan needed erases old new left None e n o long fits short is =
    let total : needed ≡ operations (rises old new) = n ∙ ap operations e in
    let all : min plan needed ≡ plan = omega arith in
    (omega arith, is ∙ ap (λ k. worked erases k old new) all ∙ ap (λ v. worked v plan old new) e)
ends plan needed erases old new left (Some rest) e n o long fits enough is =
    let total : needed ≡ operations (rises old new) = n ∙ ap operations e in
    let all : min plan needed ≡ operations erases = omega arith in
    ((omega arith, enough.1 ∙ ap (λ k. plan - k) total), is ∙ ap (λ k. worked erases k old new) all ∙ worked_whole erases old new o long fits e)

-- what a cut leaves is a block
pub chip_sized : (plan : ℕ) (old new torn : List ℕ) → length old ≡ 512 → length new ≡ 512 → chip_cutting.Cuts plan old new torn → length torn ≡ 512
chip_sized plan old new torn o n q = ap length q.1 ∙ length-worked (rises old new) plan old new o
