-- The writes of a cycle that passes go into no guarded block.
use Rattle.std.proofs.Common.{◌≡◌, ℕ, ◌-◌, ◌/◌, ◌%◌, ◌<◌, ◌≤◌, ◌&&◌, ltb, leb, ◌⊎◌, List, [], ◌∷◌, length, get_or, set, Option, None, Some, refl, ◌∙◌, inl, inr, ⊎_elim, arith}
use Rattle.std.specs.List.{AllByRecursion}
use Rattle.std.proofs.lemmas.List.{length-set}
use Rattle.std.proofs.ByRecursion.{All-set, All-get_or}
use Rattle.std.proofs.lemmas.Bool.{cases_lt, and_parts, leb-true, ltb-true, cond_both}
use Rattle.layout.specs.Address.{blocks_of, InTcr, InBlocks}
use Rattle.layout.specs.Placing.{Fills}
use Rattle.layout.specs.declared.place.Place.{Place}
use Rattle.watch.specs.declared.cycle.Cycle.{Cycle}
use Rattle.watch.specs.Rules.{W1}
use Rattle.board.specs.Writes.{put}
use Rattle.board.specs.Calls.{Poke, poke_if, pokes_of, poking}
use Rattle.law.proofs.Stored.{Sized}
use Rattle.law.proofs.Keeps.{Unguarded}

-- an address that is not guarded, with the image of l bytes from block f on
abbrev pub Free : ℕ → ℕ → ℕ → Type 0
Free f l address = InBlocks 0 3 address ⊎ InBlocks f (blocks_of l) address → ⊥

-- the block of such an address
free_block : (f l address : ℕ) → 8192 ≤ address → Free f l address →
    (3 ≤ (address - 8192) / 512) × (Fills f l ((address - 8192) / 512) → ⊥)
free_block f l address le free =
    let past : 9728 ≤ address = ⊎_elim (λ (lt : address < 9728). absurd (free (inl (omega arith, omega arith)))) (λ x. x) (cases_lt address 9728) in
    (omega arith, (λ fills. free (inr (omega arith, omega arith))))

-- bytes at such addresses come into no guarded block
pub poked : (bs : List (List ℕ)) (ps : List Poke) (count f l : ℕ) → length bs ≡ count → Sized bs → AllByRecursion (λ (p : Poke). Free f l p.address) ps →
    AllByRecursion (Unguarded count f l) (poking bs ps)
unfolding poking
poked bs [] count f l size s a = tt
poked bs (p ∷ ps) count f l size s a =
    let b : ℕ = (p.address - 8192) / 512 in
    let x : List ℕ = set (get_or bs b []) ((p.address - 8192) % 512) p.byte in
    cond_both (leb 8192 p.address && ltb b (length bs)) (put b x ∷ poking (set bs b x) ps) (poking bs ps) (AllByRecursion (Unguarded count f l))
    (λ yes.
    let both = and_parts (leb 8192 p.address) (ltb b (length bs)) yes in
    let lt : b < length bs = ltb-true b (length bs) both.1 in
    let block = free_block f l p.address (leb-true 8192 p.address both.0) a.0 in
    let long : length x ≡ 512 = length-set (get_or bs b []) ((p.address - 8192) % 512) p.byte ∙ All-get_or (λ (c : List ℕ). length c ≡ 512) bs b [] lt s in (
      (block.0, block.1, long, omega arith),
      poked (set bs b x) ps count f l (length-set bs b x ∙ size) (All-set (λ (c : List ℕ). length c ≡ 512) bs b x long s) a.1,
    ))
    (λ no. poked bs ps count f l size s a.1)

-- one more byte, if it has an address
free_poke : (f l : ℕ) (at : Option ℕ) (byte : ℕ) (ps : List Poke) → ((address : ℕ) → at ≡ Some address → Free f l address) →
    AllByRecursion (λ (p : Poke). Free f l p.address) ps → AllByRecursion (λ (p : Poke). Free f l p.address) (poke_if at byte ps)
free_poke f l None byte ps free a = a
free_poke f l (Some address) byte ps free a = (free address refl, a)

-- no byte of a cycle that keeps W1 goes to a guarded address
pub unguarded_pokes : (place : Place) (c : Cycle) (byte dma_byte : ℕ) → (InTcr c.pc → ⊥) → (W1 (Some place) c → ⊥) →
    AllByRecursion (λ (p : Poke). Free place.first place.len p.address) (pokes_of c byte dma_byte)
unguarded_pokes place c byte dma_byte out kept =
    free_poke f l c.write_at byte (poke_if c.dma_at dma_byte []) (λ address e g. kept (past, (address, inl e, g)))
    (free_poke f l c.dma_at dma_byte [] (λ address e g. kept (past, (address, inr e, g))) tt)
  where
    f : ℕ
    f = place.first

    l : ℕ
    l = place.len

    past : 2048 ≤ c.pc
    past = ⊎_elim (λ lt. absurd (out lt)) (λ x. x) (cases_lt c.pc 2048)
