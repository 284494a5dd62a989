-- A memory and its blocks, and what is left of both where one block is laid over.
use Rattle.std.proofs.Common.{◌≡◌, ℕ, ◌+◌, ◌*◌, ◌/◌, ◌<◌, ◌≤◌, Bool, ◌≢◌, List, [], ◌++◌, length, get_or, take, drop, set, sym, ap, ◌∙◌, ⊎_elim, arith}
use borrow.Rule.Slice.PartMut.{put_mid}
use Rattle.std.proofs.lemmas.List.{length-set, length-take, length-take-le, length-drop, length-append, get_or-set_same, get_or-set_other, same_lists, take_at, drop_at, drop-take, take-append-drop}
use Rattle.std.proofs.lemmas.List.FromFn.{length-map-range_with_len, get_or-map-range_with_len}
use Rattle.std.proofs.lemmas.Slice.{take-put_mid_below, drop-put_mid}
use Rattle.std.proofs.lemmas.Bool.{cases_eq, cases_lt}
use Rattle.store.specs.Medium.{Whole, after}
use Rattle.store.specs.Memory.{block_at, blocks_in, remainder, laid, lowest}

-- a memory has as many blocks as 512 goes into its length
pub length-blocks : (memory : List ℕ) → length (blocks_in memory) ≡ length memory / 512
unfolding blocks_in
length-blocks memory = length-map-range_with_len (block_at memory) 0 (length memory / 512)

-- block b of the list is the memory's block b
pub held_block : (memory : List ℕ) (b : ℕ) (d : List ℕ) → b < length memory / 512 → get_or (blocks_in memory) b d ≡ block_at memory b
unfolding blocks_in
held_block memory b d h = get_or-map-range_with_len (block_at memory) 0 (length memory / 512) b b d h (omega arith)

-- a block has 512 bytes
pub length-block : (memory : List ℕ) (b : ℕ) → b < length memory / 512 → length (block_at memory b) ≡ 512
length-block memory b h = simp (length-take, length-drop) (omega arith)

-- and so has each of the list
pub whole-blocks : (memory : List ℕ) → Whole (blocks_in memory)
whole-blocks memory b h =
    let lt : b < length memory / 512 = omega (arith, length-blocks memory) in
    ap length (held_block memory b [] lt) ∙ length-block memory b lt

-- what a write to a part of the memory leaves, as the check has it
pub put_laid : (memory : List ℕ) (b n : ℕ) (x y : List ℕ) → n ≡ 512 → x ≡ y → put_mid (512 * b) n memory x ≡ laid memory b y
put_laid memory b n x y e q = rw (e, q)

module _ (memory : List ℕ) (b : ℕ) (lt : b < length memory / 512) where
  -- a block laid over itself changes nothing
  pub laid_itself : laid memory b (block_at memory b) ≡ memory
  laid_itself =
      ap (λ r. take (512 * b) memory ++ r) (take-append-drop 512 (drop (512 * b) memory)) ∙ take-append-drop (512 * b) memory

  module _ (x : List ℕ) (long : length x ≡ 512) where
    -- the memory stays as long as it was
    pub length-laid : length (laid memory b x) ≡ length memory
    length-laid = simp (length-append, length-take, length-drop) (omega arith)

    -- the block laid over holds the new bytes
    same_block : block_at (laid memory b x) b ≡ x
    same_block =
        ap (take 512) (drop_at (take (512 * b) memory) (x ++ drop 512 (drop (512 * b) memory)) (512 * b) (length-take-le (512 * b) memory (omega arith)))
        ∙ take_at x (drop 512 (drop (512 * b) memory)) 512 long

    -- and every other what it held
    other_block : (k : ℕ) → k ≢ b → block_at (laid memory b x) k ≡ block_at memory k
    other_block k ne =
        ⊎_elim
        (λ (below : k < b).
        sym (drop-take (512 * k) 512 (laid memory b x))
        ∙ ap (drop (512 * k)) (take-put_mid_below (512 * b) 512 memory x (512 * k + 512) (omega arith) (omega arith))
        ∙ drop-take (512 * k) 512 memory)
        (λ (above : b ≤ k). ap (take 512) (drop-put_mid (512 * b) 512 memory x (512 * k) (omega arith) (omega arith) long))
        (cases_lt k b)

    -- a block laid over changes that block alone
    pub blocks_laid : blocks_in (laid memory b x) ≡ set (blocks_in memory) b x
    blocks_laid =
        let count : length (blocks_in (laid memory b x)) ≡ length (blocks_in memory) =
        length-blocks (laid memory b x) ∙ ap (λ n. n / 512) length-laid ∙ sym (length-blocks memory) in
        let n = length-blocks memory in
        let m = length-blocks (laid memory b x) in
        same_lists _ _ (count ∙ sym (length-set (blocks_in memory) b x)) (λ k d h.
        held_block (laid memory b x) k d (omega arith)
        ∙ ⊎_elim
        (λ (e : k ≡ b). ap (block_at (laid memory b x)) e ∙ same_block ∙ sym (ap (λ i. get_or (set (blocks_in memory) b x) i d) e ∙ get_or-set_same (blocks_in memory) b x d (omega arith)))
        (λ (ne : k ≢ b). other_block k ne ∙ sym (get_or-set_other (blocks_in memory) b k x d ne ∙ held_block memory k d (omega arith)))
        (cases_eq k b))

    -- no byte past the last whole block changes
    pub remainder_laid : remainder (laid memory b x) ≡ remainder memory
    unfolding remainder
    remainder_laid =
        ap (λ n. drop (512 * (n / 512)) (laid memory b x)) length-laid
        ∙ drop-put_mid (512 * b) 512 memory x (512 * (length memory / 512)) (omega arith) (omega arith) long

    -- the store's meaning after it
    pub lowest_laid : (was live : Bool) → lowest (laid memory b x) live ≡ after (lowest memory was) b x live
    lowest_laid was live = ap (λ blocks. record { blocks = blocks; live = live; place = (λ n. n); layers = 0 }) blocks_laid
