-- Bytes that are put into blocks.
use Rattle.std.proofs.Common.{◌≡◌, ℕ, ◌+◌, ◌-◌, ◌/◌, ◌%◌, ◌≤◌, Bool, true, false, cond, ◌&&◌, ltb, leb, ◌⊎◌, List, [], ◌∷◌, length, get_or, set, Option, None, Some, Ok, Err, Result, sym, refl, ap, ◌∙◌, subst, inl, inr, arith}
use Rattle.layout.specs.Address.{InTcr}
use Rattle.store.specs.Medium.{Medium, after}
use Rattle.watch.specs.declared.cycle.Cycle.{Cycle}
use Rattle.watch.specs.Rules.{W1, W2}
use Rattle.board.specs.declared.states.Running.{Running}
use Rattle.board.specs.declared.answers.Answer.TheVariants as answer
use Rattle.board.specs.declared.answers.Supply.{Supply}
use Rattle.board.specs.Answers.{cleared}
use Rattle.board.specs.Calls.{Poke, Pokes, poking, poke_if, pokes_of, IsScratch, Cycles}
use Rattle.board.specs.Poked.{Poked, ReadRow, unread}
use Rattle.board.specs.Results.{outcome}
use Rattle.board.specs.Rows.{Row}
use Rattle.board.specs.States.{Board, cold, running}
use Rattle.board.specs.Writes.{Put, Write, put}
use Rattle.board.proofs.Made.{all_done, not_done}
use Rattle.board.proofs.Rowed.{differ, stopped}

-- an address lies in a store
abbrev pub inside : List (List ℕ) → ℕ → Bool
inside blocks at = leb 8192 at && ltb ((at - 8192) / 512) (length blocks)

-- the write of a byte
abbrev pub poked : List (List ℕ) → ℕ → ℕ → Put
poked blocks at byte = put ((at - 8192) / 512) (set (get_or blocks ((at - 8192) / 512) []) ((at - 8192) % 512) byte)

-- the byte, and those after it
abbrev Ahead : List (List ℕ) → Option ℕ → ℕ → ℕ → Type 0
Ahead blocks at byte address = (ps : List Poke)
    → poking blocks (poke_if at byte ps) ≡ poked blocks address byte ∷ poking (set blocks ((address - 8192) / 512) (poked blocks address byte).bytes) ps

-- the byte is not put
abbrev Nowhere : List (List ℕ) → Option ℕ → ℕ → Type 0
Nowhere blocks at byte = (ps : List Poke) → poking blocks (poke_if at byte ps) ≡ poking blocks ps

module _ (blocks : List (List ℕ)) (address byte : ℕ) where
  pub outside : inside blocks address ≡ false → Nowhere blocks (Some address) byte
  unfolding poking
  outside f ps =
      ap (λ (b : Bool). cond b (poked blocks address byte ∷ poking (set blocks ((address - 8192) / 512) (poked blocks address byte).bytes) ps) (poking blocks ps)) f

  pub within : inside blocks address ≡ true → Ahead blocks (Some address) byte address
  unfolding poking
  within f ps =
      ap (λ (b : Bool). cond b (poked blocks address byte ∷ poking (set blocks ((address - 8192) / 512) (poked blocks address byte).bytes) ps) (poking blocks ps)) f

-- nothing more to put
pub no_more : (blocks : List (List ℕ)) → poking blocks [] ≡ []
unfolding poking
no_more blocks = refl

-- a byte is not put, or it is the first write
pub split : (blocks : List (List ℕ)) (at : Option ℕ) (byte : ℕ) → Nowhere blocks at byte ⊎ ((address : ℕ) × Ahead blocks at byte address)
split blocks None byte = inl (λ ps. refl)
split blocks (Some address) byte = by (inside blocks address) refl
  where
    by : (b : Bool) → inside blocks address ≡ b → Nowhere blocks (Some address) byte ⊎ ((a : ℕ) × Ahead blocks (Some address) byte a)
    by true e = inr (address, within blocks address byte e)
    by false e = inl (outside blocks address byte e)

-- at most one write puts a byte
pub at_most_one : (blocks : List (List ℕ)) (at : Option ℕ) (byte : ℕ) → length (poking blocks (poke_if at byte [])) ≤ 1
at_most_one blocks at byte = by (split blocks at byte)
  where
    by : Nowhere blocks at byte ⊎ ((a : ℕ) × Ahead blocks at byte a) → length (poking blocks (poke_if at byte [])) ≤ 1
    by (inl f) = rw (f [], no_more blocks) (omega arith)
    by (inr (a, f)) = rw (f [], no_more (set blocks ((a - 8192) / 512) (poked blocks a byte).bytes)) (omega arith)

-- a live store reads
live_row : (n : ℕ) (plan : List Put) (m : Medium) (r : Result Unit Supply) (e : Medium) → m.live ≡ true → ReadRow n plan m r e → Row n plan m r e
live_row n [] m r e live p = p
live_row n (q ∷ plan) m r e live (inl p) = absurd (let z : true ≡ false = sym live ∙ p.0 in let y : ◌≡◌ {A = ℕ} 0 1 = cc in omega arith)
live_row n (q ∷ plan) m r e live (inr p) = p.1

-- after one byte that was put, more
after_one : (p : Put) (plan : List Put) (m d : Medium) (r : Result Unit Supply) (e : Medium) → ReadRow 1 (p ∷ []) m (Ok tt) d
    → (d ≡ after m p.block p.bytes true → ReadRow 2 plan d r e) → ReadRow 1 (p ∷ plan) m r e
after_one p plan m d r e (inl q) next = absurd (differ tt (unread m p.block) q.1)
after_one p plan m d r e (inr (live, inl q)) next = absurd (differ tt q.0 q.1)
after_one p plan m d r e (inr (live, inr q)) next =
    inr (live, inr (q.0, live_row 2 plan (after m p.block p.bytes true) r e refl (subst (λ (x : Medium). ReadRow 2 plan x r e) q.1.1 (next q.1.1))))

-- what came of a byte: by its address among n blocks
module _ (write : ℕ) (m : Medium) (at : Option ℕ) (byte : ℕ) where
  abbrev plan : List Put
  plan = poking m.blocks (poke_if at byte [])

  none : plan ≡ [] → Poked write plan m (Ok write) m
  none e = subst (λ (q : List Put). Poked write q m (Ok write) m) (sym e) (omega arith, (refl, refl))

  pub no_address : at ≡ None → Poked write plan m (Ok write) m
  no_address e = none (ap (λ (o : Option ℕ). poking m.blocks (poke_if o byte [])) e ∙ no_more m.blocks)

  module _ (n address : ℕ) (e : at ≡ Some address) (b : Bool) (f : b ≡ leb 8192 address && ltb ((address - 8192) / 512) n) (is : n ≡ length m.blocks) where
    within_blocks : inside m.blocks address ≡ b
    within_blocks = sym (f ∙ ap (λ (k : ℕ). leb 8192 address && ltb ((address - 8192) / 512) k) is)

    pub out_of_store : b ≡ false → Poked write plan m (Ok write) m
    out_of_store g =
        none (ap (λ (o : Option ℕ). poking m.blocks (poke_if o byte [])) e ∙ (outside m.blocks address byte (within_blocks ∙ g) [] ∙ no_more m.blocks))

    module _ (g : b ≡ true) where
      one : plan ≡ poked m.blocks address byte ∷ []
      one =
          ap (λ (o : Option ℕ). poking m.blocks (poke_if o byte [])) e ∙ (within m.blocks address byte (within_blocks ∙ g) []
          ∙ ap (λ (x : List Put). poked m.blocks address byte ∷ x) (no_more (set m.blocks ((address - 8192) / 512) (poked m.blocks address byte).bytes)))

      pub put_done : (d : Medium) → ReadRow write (poked m.blocks address byte ∷ []) m (Ok tt) d → Poked write plan m (Ok (write + 1)) d
      put_done d row = subst (λ (q : List Put). Poked write q m (Ok (write + 1)) d) (sym one) (refl, row)

      pub put_cut : (s : Supply) (d : Medium) → ReadRow write (poked m.blocks address byte ∷ []) m (Err s) d → Poked write plan m (Err s) d
      put_cut s d row = subst (λ (q : List Put). Poked write q m (Err s) d) (sym one) row

-- a byte, and then another one
module _ (m : Medium) (at : Option ℕ) (byte : ℕ) (rest : List Poke) where
  pub both : (d : Medium) (k : ℕ) (r : Result Unit Supply) (e : Medium) → Poked 1 (poking m.blocks (poke_if at byte [])) m (Ok k) d
      → ReadRow k (poking d.blocks rest) d r e → ReadRow 1 (poking m.blocks (poke_if at byte rest)) m r e
  both d k r e p next = by (split m.blocks at byte)
    where
      by : Nowhere m.blocks at byte ⊎ ((a : ℕ) × Ahead m.blocks at byte a) → ReadRow 1 (poking m.blocks (poke_if at byte rest)) m r e
      by (inl f) =
          let none : poking m.blocks (poke_if at byte []) ≡ [] = f [] ∙ no_more m.blocks in
          let q : Poked 1 [] m (Ok k) d = subst (λ (x : List Put). Poked 1 x m (Ok k) d) none p in
          let one : k ≡ 1 = q.0 in
          subst (λ (x : List Put). ReadRow 1 x m r e) (sym (f rest))
          (subst (λ (x : Medium). ReadRow 1 (poking x.blocks rest) x r e) q.1.1 (subst (λ (i : ℕ). ReadRow i (poking d.blocks rest) d r e) one next))
      by (inr (a, f)) =
          let w : Put = poked m.blocks a byte in
          let single : poking m.blocks (poke_if at byte []) ≡ w ∷ [] = f [] ∙ ap (λ (x : List Put). w ∷ x) (no_more (set m.blocks w.block w.bytes)) in
          let q : Poked 1 (w ∷ []) m (Ok k) d = subst (λ (x : List Put). Poked 1 x m (Ok k) d) single p in
          let two : k ≡ 2 = q.0 in
          subst (λ (x : List Put). ReadRow 1 x m r e) (sym (f rest))
          (after_one w (poking (set m.blocks w.block w.bytes) rest) m d r e q.1
          (λ is. subst (λ (x : List (List ℕ)). ReadRow 2 (poking x rest) d r e) (ap (λ (x : Medium). x.blocks) is) (subst (λ (i : ℕ). ReadRow i (poking d.blocks rest) d r e) two next)))

  pub first_cut : (s : Supply) (e : Medium) → Poked 1 (poking m.blocks (poke_if at byte [])) m (Err s) e
      → ReadRow 1 (poking m.blocks (poke_if at byte rest)) m (Err s) e
  first_cut s e p = by (split m.blocks at byte)
    where
      by : Nowhere m.blocks at byte ⊎ ((a : ℕ) × Ahead m.blocks at byte a) → ReadRow 1 (poking m.blocks (poke_if at byte rest)) m (Err s) e
      by (inl f) =
          let q : ReadRow 1 [] m (Err s) e = subst (λ (x : List Put). ReadRow 1 x m (Err s) e) (f [] ∙ no_more m.blocks) p in
          absurd (differ tt s (sym q.0))
      by (inr (a, f)) =
          let w : Put = poked m.blocks a byte in
          let more : List Put = poking (set m.blocks w.block w.bytes) rest in
          let single : poking m.blocks (poke_if at byte []) ≡ w ∷ [] = f [] ∙ ap (λ (x : List Put). w ∷ x) (no_more (set m.blocks w.block w.bytes)) in
          subst (λ (x : List Put). ReadRow 1 x m (Err s) e) (sym (f rest)) (still w more (subst (λ (x : List Put). ReadRow 1 x m (Err s) e) single p))
        where
          still : (w : Put) (more : List Put) → ReadRow 1 (w ∷ []) m (Err s) e → ReadRow 1 (w ∷ more) m (Err s) e
          still w more (inl q) = inl q
          still w more (inr q) = inr (q.0, stopped (w ∷ []) more 1 m s e q.1)

-- the bytes of a cycle that passed
pub pokes_done : (puts : List Put) (m : Medium) (board : Board) (e : Medium) → ReadRow 1 puts m (Ok tt) e
    → (ws : List Write) × Pokes m puts board (outcome ws answer.Passes board e)
pokes_done [] m board e p = ([], ap (λ (x : Medium). outcome [] answer.Passes board x) p.1)
pokes_done (q ∷ puts) m board e (inl p) = absurd (differ tt (unread m q.block) p.1)
pokes_done (q ∷ puts) m board e (inr p) =
    let w = all_done (q ∷ puts) m answer.Passes board e p.1 in (w.0, inr (p.0, w.1))

pub pokes_cut : (plan : List Put) (m : Medium) (board : Board) (s : Supply) (e : Medium) → ReadRow 1 plan m (Err s) e
    → (ws : List Write) × Pokes m plan board (outcome ws (answer.Supply s) cold e)
pokes_cut [] m board s e p = absurd (differ tt s (sym p.0))
pokes_cut (q ∷ plan) m board s e (inl p) =
    let same : s ≡ unread m q.block = cc p.1 in
    ([], inl (p.0, ap (λ (x : Supply). outcome [] (answer.Supply x) cold e) same ∙ ap (λ (x : Medium). outcome [] (answer.Supply (unread m q.block)) cold x) p.2))
pokes_cut (q ∷ plan) m board s e (inr p) =
    let w = not_done (q ∷ plan) m answer.Passes board e s p.1 in (w.0, inr (p.0, w.1))

-- the number of a second write
pub at_most_two : (m : Medium) (at : Option ℕ) (byte k : ℕ) → k ≡ 1 + length (poking m.blocks (poke_if at byte [])) → k ≤ 2
at_most_two m at byte k e = omega (arith, at_most_one m.blocks at byte)

-- a cycle, from its verdict and its bytes
module _ (r : Running) (m : Medium) (c : Cycle) (byte dma_byte : ℕ) (scratch : List ℕ) (right : IsScratch scratch) (out : InTcr c.pc → ⊥) where
  pub judged_reset : W1 (Some r.place) c ⊎ W2 (Some r.place) c
      → (ws : List Write) × Cycles r m c byte dma_byte scratch (outcome ws answer.Resets cold m) (cleared scratch)
  judged_reset broken = ([], record { outcome = inr (right, inr (out, inl (broken, refl))); scratch_left = refl })

  module _ (kept : W1 (Some r.place) c ⊎ W2 (Some r.place) c → ⊥) (e : Medium) where
    pub judged_done : ReadRow 1 (poking m.blocks (pokes_of c byte dma_byte)) m (Ok tt) e
        → (ws : List Write) × Cycles r m c byte dma_byte scratch (outcome ws answer.Passes (running r) e) (cleared scratch)
    judged_done row =
        let w = pokes_done (poking m.blocks (pokes_of c byte dma_byte)) m (running r) e row in
        (w.0, record { outcome = inr (right, inr (out, inr (λ a. kept (inl a), λ b. kept (inr b), w.1))); scratch_left = refl })

    pub judged_cut : (s : Supply) → ReadRow 1 (poking m.blocks (pokes_of c byte dma_byte)) m (Err s) e
        → (ws : List Write) × Cycles r m c byte dma_byte scratch (outcome ws (answer.Supply s) cold e) (cleared scratch)
    judged_cut s row =
        let w = pokes_cut (poking m.blocks (pokes_of c byte dma_byte)) m (running r) s e row in
        (w.0, record { outcome = inr (right, inr (out, inr (λ a. kept (inl a), λ b. kept (inr b), w.1))); scratch_left = refl })
