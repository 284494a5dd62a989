-- What each call shows of the law, from its meaning.
use Rattle.std.proofs.Common.{◌≡◌, ℕ, ◌<◌, ◌≤◌, Bool, true, false, ◌⊎◌, List, [], ◌∷◌, length, get_or, Some, sym, refl, ap, ◌∙◌, subst, ap₂, subst₂, inl, inr, ⊎_elim, arith}
use Rattle.std.specs.List.{AllByRecursion}
use Rattle.std.proofs.ByRecursion.{All-weaker}
use Rattle.std.proofs.lemmas.Bool.{true≢false, cond-false}
use Rattle.refusal.specs.declared.Refusal.{Refusal}
use Rattle.refusal.specs.declared.Refusal.TheVariants.{WrongLength, BlockRange, RunningBlock, CorePc, BadImage, NotNewer, WrongToken, TagLength}
use Rattle.authenticator.specs.Meaning.{Meaning, padded}
use Rattle.layout.specs.Image.{version_of, nonce_of, vectors_of}
use Rattle.layout.specs.Address.{InTcr}
use Rattle.layout.specs.Placing.{Lies, Open, GoesPast, Fills, Share, Newer}
use Rattle.control.specs.Blocks.{pointer_to, flag_in}
use Rattle.control.specs.declared.kind.Flag.{Flag}
use Rattle.control.specs.declared.kind.Flag.TheVariants.{Finished, Unfinished}
use Rattle.control.proofs.Held.{stands_from_formed, points_once}
use Rattle.planner.specs.Confirmation.{confirmation_of}
use Rattle.planner.specs.Token.{token_of}
use Rattle.watch.specs.Rules.{W1, W2}
use Rattle.watch.specs.declared.cycle.Cycle.{Cycle}
use Rattle.store.specs.Medium.{Medium, held, woken}
use Rattle.board.specs.declared.states.Running.{Running}
use Rattle.board.specs.declared.states.Matched.{Matched}
use Rattle.board.specs.declared.answers.Answer.{Answer}
use Rattle.board.specs.declared.answers.Answer.TheVariants as answer
use Rattle.board.specs.Answers.{shown}
use Rattle.board.specs.States.{Board, cold, running, matched, bytes_of, launch_of}
use Rattle.board.specs.Stored.{image_at, image_in, said_at}
use Rattle.board.specs.Writes.{Put, put, was_cut}
use Rattle.board.specs.Tests.{Outcome, quiet, Tests, pass, test, Tested, Read, Written}
use Rattle.board.specs.Calls.{IsScratch, IsRegister, bytes_at, RunsBy, Resumes, confirmation_by, closing, installing, Starts, Stages, Pokes, Cycles, Takes, Offers, Installs, poking, pokes_of}
use Rattle.law.specs.History.{Call, start, stage, cycle, offer, leave, install, reset, World, Event, Made, Step}
use Rattle.law.specs.Law.{Match, is_match, counted, took_effect}
use Rattle.law.proofs.Traces.{Wrote, wrote}
use Rattle.law.proofs.Invariant.{Base, Good, Half, Duty, Inv, never_both, reads_finished, base_vectors, legal, on_duty, chill}
use Rattle.law.proofs.Keeps.{Unguarded}
use Rattle.law.proofs.Pokes.{poked, unguarded_pokes}
use Rattle.law.proofs.Shown.{Up, RightStart, Shown, plain, left_is, still, writes, ending, installed}

-- either way
pub cases : {A B C : Type 0} → A ⊎ B → (A → C) → (B → C) → C
cases x f g = ⊎_elim f g x

-- all tests passed
abbrev pub Passed : Tests → Type 0
Passed pass = Unit {0}
Passed (test P refusal tests) = P × Passed tests

-- a call was refused, or passed all its tests
pub tested : (tests : Tests) (board : Board) (m : Medium) (Work : Outcome → Type 0) (o : Outcome) → Tested tests board m Work o →
    ((refusal : Refusal) × (o ≡ quiet (answer.Refused refusal) board m)) ⊎ (Passed tests × Work o)
tested pass board m Work o work = inr (tt, work)
tested (test P refusal tests) board m Work o (inl (fails, is)) = inl (refusal, is)
tested (test P refusal tests) board m Work o (inr (holds, rest)) = ⊎_elim inl (λ x. inr ((holds, x.0), x.1)) (tested tests board m Work o rest)

-- the parts of a cycle's meaning, and of an offer's
abbrev Judged : Running → Medium → Cycle → ℕ → ℕ → Outcome → Type 0
Judged r m c byte dma_byte o =
    ((W1 (Some r.place) c ⊎ W2 (Some r.place) c) × (o ≡ quiet answer.Resets cold m))
    ⊎ ((W1 (Some r.place) c → ⊥) × (W2 (Some r.place) c → ⊥) × Pokes m (poking m.blocks (pokes_of c byte dma_byte)) (running r) o)

-- an offer's tests ahead of its read
abbrev offer_tests : ℕ → ℕ → List ℕ → ℕ → List ℕ → Tests
offer_tests count first token size scratch =
    test (IsScratch scratch) WrongLength (test (Open count first) BlockRange (test (length token ≡ size) TagLength pass))

-- those of the image that it finds
abbrev image_tests : (a : Meaning) → a.Key → Running → Medium → ℕ → List ℕ → Tests
image_tests a key r m first token =
    test ((46 ≤ said_at m.blocks first) × (GoesPast (length m.blocks) first (said_at m.blocks first) → ⊥)) BadImage
    (test (Share first (said_at m.blocks first) r.place.first r.place.len → ⊥) RunningBlock
    (test (Newer (version_of (image_in m.blocks first)) r.version) NotNewer
    (test (token ≡ token_of a key (image_in m.blocks first)) WrongToken pass)))

-- what it does where all pass
abbrev Matching : Running → Medium → ℕ → Outcome → Type 0
Matching r m first o = (b : Matched) × Takes r m first b × (o ≡ quiet answer.Matches (matched b) m)

module _ (a : Meaning) (key : a.Key) (img : List ℕ) (m : Match) (n i : ℕ) where
  -- what the flag reads tells which kind of store it is
  pub good_when : (board : Board) (bs : List (List ℕ)) (live : Bool) (v : Inv a key img m n i board bs live) → flag_in (get_or bs 2 []) ≡ Finished →
      Good img bs v.first v.len
  good_when board bs live v e = ⊎_elim (λ g. g) (λ h. absurd (never_both (sym e ∙ h.unended))) v.store

  -- an unfinished flag, an install on its way
  pub half_when : (board : Board) (bs : List (List ℕ)) (live : Bool) (v : Inv a key img m n i board bs live) → flag_in (get_or bs 2 []) ≡ Unfinished →
      Half bs v.first v.len n i
  half_when board bs live v e = ⊎_elim (λ g. absurd (never_both (sym (reads_finished (get_or bs 2 []) g.ended) ∙ e))) (λ h. h) v.store

  -- a call that wrote nothing, and answered nothing that counts
  quietly : (c : Call) (said : Answer) (board : Board) (s : Medium) (o : Outcome) (reg : List ℕ) → is_match said ≡ false → ((k : ℕ) → counted said k ≡ k) →
      (RightStart c → Up board) → Inv a key img m n i board s.blocks s.live → o ≡ quiet said board s → Shown a key img m n i c o reg
  quietly c said board s o reg unmatched none up v is =
      subst (λ (x : Outcome). Shown a key img m n i c x reg) (sym is) (still a key img m n i c said board s reg unmatched none up v)

  -- start
  module _ (s : Medium) (scratch register : List ℕ) (state : a.State) (o : Outcome) (scratch' reg : List ℕ) (state' : a.State)
      (v : Inv a key img m n i cold s.blocks s.live) (st : Starts a key s scratch register state o scratch' reg state') where
    -- it finds the image in its place
    found : (p : ℕ) (r : Running) → RunsBy (woken s) p r → held s p ≡ pointer_to v.first v.len →
        (r.place.first ≡ v.first) × (r.place.len ≡ v.len)
    found p r (leg, version_is) e =
        points_once (held s p) (length s.blocks) r.place.first r.place.len (length s.blocks) v.first v.len leg.0 (e, v.base.lies)

    bytes_found : (r : Running) → (r.place.first ≡ v.first) × (r.place.len ≡ v.len) → bytes_at s r ≡ img
    bytes_found r here = ap₂ (image_at s.blocks) here.0 here.1 ∙ v.base.image

    resumed : (t : Flag) → flag_in (held s 2) ≡ t → Resumes t (woken s) o → Shown a key img m n i (start scratch register) o reg
    resumed Finished e (inl (none, is)) = absurd (none (v.first, v.len, legal img s.blocks v.first v.len 0 v.base (good_when cold s.blocks s.live v e).pointer))
    resumed Finished e (inr (inl (some, falls, is))) =
        absurd (falls (stands_from_formed 32 (vectors_of img) (held s 1) (base_vectors img s.blocks v.first v.len v.base) (omega arith)
        (good_when cold s.blocks s.live v e).vectors))
    resumed Finished e (inr (inr (stands, (r, by, is)))) =
        let g = good_when cold s.blocks s.live v e in
        let here = found 0 r by g.pointer in
        quietly (start scratch register) (answer.Runs (launch_of r.place)) (running r) (woken s) o reg refl (λ k. refl) (λ right. (r, refl))
        (on_duty a key img m n i s.blocks true v.first v.len v.base r
        (record { good = g; awake = refl; first_is = here.0; len_is = here.1; version_is = by.1 ∙ ap version_of (bytes_found r here) })
        v.once v.unasked) is
    resumed Unfinished e (inl (none, is)) = absurd (none (v.first, v.len, legal img s.blocks v.first v.len 3 v.base (half_when cold s.blocks s.live v e).pointer))
    resumed Unfinished e (inr (r, by, work)) =
        let h = half_when cold s.blocks s.live v e in
        let here = found 3 r by h.pointer in
        let same : bytes_at s r ≡ img = bytes_found r here in
        let both : Base img s.blocks r.place.first r.place.len × Half s.blocks r.place.first r.place.len n i =
        subst₂ (λ (f l : ℕ). Base img s.blocks f l × Half s.blocks f l n i) (sym here.0) (sym here.1) (v.base, h) in
        let version_is : r.version ≡ version_of img = by.1 ∙ ap version_of same in
        let plan : List Put = closing r.place.first r.place.len (vectors_of (bytes_at s r)) in
        let said : Answer = answer.Confirmed (launch_of r.place) in
        let w : Wrote (woken s) plan said (running r) o = wrote (woken s) plan said (running r) o work v.base.sized
        (omega (arith, v.base.fit.0), (omega (arith, v.base.fit.0), (omega (arith, v.base.fit.0), tt))) in
        subst (λ (x : Outcome). Shown a key img m n i (start scratch register) x reg) (sym (left_is (woken s) plan said (running r) o w))
        (ending a key img m n i scratch register reg s.blocks r.place.first r.place.len r (vectors_of (bytes_at s r)) o.writes
        w.supply (launch_of r.place) o.store both.0 both.1 refl refl version_is (ap vectors_of same)
        w.performs w.blocks_are (w.live refl)
        (λ whole.
        st.register_left
        ∙ ap₂ (λ (b : Board) (x : Answer). shown (confirmation_by a key s b) x register)
        (w.board_is ∙ cond-false (was_cut o.writes) _ _ whole) (w.answer_is ∙ cond-false (was_cut o.writes) _ _ whole)
        ∙ ap₂ (λ (x : ℕ) (z : List ℕ). padded (confirmation_of a key x z)) version_is (ap nonce_of same)))

    pub start_shown : Shown a key img m n i (start scratch register) o reg
    start_shown =
        ⊎_elim
        (λ x. quietly (start scratch register) (answer.Refused WrongLength) cold s o reg refl (λ k. refl) (λ right. absurd (x.0 right)) v x.1)
        (λ x. ⊎_elim (λ y. absurd (y.0 v.base.fit)) (λ y. resumed (flag_in (held s 2)) refl y.1) x.1)
        st.outcome

  -- calls of a running board
  module _ (s : Medium) (r : Running) (o : Outcome) (reg : List ℕ) (v : Inv a key img m n i (running r) s.blocks s.live) where
    refused : (c : Call) → (RightStart c → ⊥) → (x : Refusal) × (o ≡ quiet (answer.Refused x) (running r) s) → Shown a key img m n i c o reg
    refused c wrong (x, is) = quietly c (answer.Refused x) (running r) s o reg refl (λ k. refl) (λ right. absurd (wrong right)) v is

    chilled : (c : Call) (said : Answer) → is_match said ≡ false → ((k : ℕ) → counted said k ≡ k) → (RightStart c → ⊥) → o ≡ quiet said cold s →
        Shown a key img m n i c o reg
    chilled c said unmatched none wrong is =
        quietly c said cold s o reg unmatched none (λ right. absurd (wrong right)) (chill a key img m n i (running r) s.blocks s.live s.live v) is

    -- the image that runs is the one in its place
    base_here : Base img s.blocks r.place.first r.place.len × Duty img s.blocks s.live r.place.first r.place.len r
    base_here =
        let d : Duty img s.blocks s.live v.first v.len r = v.on_board in
        subst₂ (λ (f l : ℕ). Base img s.blocks f l × Duty img s.blocks s.live f l r) (sym d.first_is) (sym d.len_is) (v.base, d)

    wrote_unguarded : (c : Call) (said : Answer) (plan : List Put) → is_match said ≡ false → ((k : ℕ) → counted said k ≡ k) →
        took_effect c o.writes ≡ false → (RightStart c → ⊥) →
        AllByRecursion (Unguarded (length s.blocks) r.place.first r.place.len) plan → Written s plan said (running r) o → Shown a key img m n i c o reg
    wrote_unguarded c said plan unmatched none idles wrong u work =
        let w : Wrote s plan said (running r) o = wrote s plan said (running r) o work v.base.sized
        (All-weaker (Unguarded (length s.blocks) r.place.first r.place.len) (λ (p : Put). p.block < length s.blocks) (λ p x. x.3) plan u) in
        subst (λ (x : Outcome). Shown a key img m n i c x reg) (sym (left_is s plan said (running r) o w))
        (writes a key img m n i c said s.blocks (length s.blocks) r.place.first r.place.len s.live r plan o.writes w.supply o.store reg
        unmatched none idles wrong base_here.0 base_here.1 v.once v.unasked u w.performs w.blocks_are (w.live base_here.1.awake))

    pub stage_shown : (b : ℕ) (bytes : List ℕ) → Stages r s b bytes o → Shown a key img m n i (stage b bytes) o reg
    stage_shown b bytes x =
        cases
        (tested (test (length bytes ≡ 512) WrongLength (test (Open (length s.blocks) b) BlockRange (test (Fills r.place.first r.place.len b → ⊥) RunningBlock pass)))
        (running r) s (Written s (put b bytes ∷ []) answer.Done (running r)) o x)
        (refused (stage b bytes) (λ right. right))
        (λ y.
        wrote_unguarded (stage b bytes) answer.Done (put b bytes ∷ []) refl (λ k. refl) refl (λ right. right)
        ((omega (arith, y.0.1.0.0), y.0.1.1.0, y.0.0, omega (arith, y.0.1.0.1)), tt) y.1)

    passes : (c : Cycle) (byte dma_byte : ℕ) (scratch : List ℕ) (plan : List Put) →
        AllByRecursion (Unguarded (length s.blocks) r.place.first r.place.len) plan → Pokes s plan (running r) o →
        Shown a key img m n i (cycle c byte dma_byte scratch) o reg
    passes c byte dma_byte scratch [] u is = quietly (cycle c byte dma_byte scratch) answer.Passes (running r) s o reg refl (λ k. refl) (λ right. absurd right) v is
    passes c byte dma_byte scratch (p ∷ plan) u (inl (off, is)) = chilled (cycle c byte dma_byte scratch) (answer.Supply _) refl (λ k. refl) (λ right. right) is
    passes c byte dma_byte scratch (p ∷ plan) u (inr (on, work)) =
        wrote_unguarded (cycle c byte dma_byte scratch) answer.Passes (p ∷ plan) refl (λ k. refl) refl (λ right. right) u work

    judged : (c : Cycle) (byte dma_byte : ℕ) (scratch : List ℕ) → (InTcr c.pc → ⊥) → Judged r s c byte dma_byte o →
        Shown a key img m n i (cycle c byte dma_byte scratch) o reg
    judged c byte dma_byte scratch out (inl (broken, is)) = chilled (cycle c byte dma_byte scratch) answer.Resets refl (λ k. refl) (λ right. right) is
    judged c byte dma_byte scratch out (inr (one, two, work)) =
        passes c byte dma_byte scratch (poking s.blocks (pokes_of c byte dma_byte))
        (poked s.blocks (pokes_of c byte dma_byte) (length s.blocks) r.place.first r.place.len refl v.base.sized
        (unguarded_pokes r.place c byte dma_byte out one)) work

    pub cycle_shown : (c : Cycle) (byte dma_byte : ℕ) (scratch scratch' : List ℕ) → Cycles r s c byte dma_byte scratch o scratch' →
        Shown a key img m n i (cycle c byte dma_byte scratch) o reg
    cycle_shown c byte dma_byte scratch scratch' x =
        cases (tested (test (IsScratch scratch) WrongLength (test (InTcr c.pc → ⊥) CorePc pass)) (running r) s (Judged r s c byte dma_byte) o x.outcome)
        (refused (cycle c byte dma_byte scratch) (λ right. right))
        (λ y. judged c byte dma_byte scratch y.0.1.0 y.1)

    -- a match: the image that lies there lies in the store, is newer, and the token is its tag
    matches : (first : ℕ) (token scratch : List ℕ) (b : Matched) → Passed (offer_tests (length s.blocks) first token a.size scratch) →
        Passed (image_tests a key r s first token) → Takes r s first b → o ≡ quiet answer.Matches (matched b) s →
        Shown a key img m n i (offer first token scratch) o reg
    matches first token scratch b p q t is =
        subst (λ (x : Outcome). Shown a key img m n i (offer first token scratch) x reg) (sym is) (record {
          inv = record {
            first = v.first;
            len = v.len;
            base = v.base;
            store = v.store;
            on_board = (
              subst (Duty img s.blocks s.live v.first v.len) (sym t.running_is) v.on_board,
              record {
                lies = subst₂ (Lies (length s.blocks)) (sym t.first_is) (sym t.len_is) (p.1.0.0, q.0.0, omega (arith, q.0.1));
                says = ap (said_at s.blocks) t.first_is ∙ sym t.len_is;
                image = ap₂ (image_at s.blocks) t.first_is t.len_is;
                version_is = t.version_is;
                nonce_is = t.nonce_is;
                vectors_are = t.vectors_are;
                newer = subst (λ (k : ℕ). k < version_of (image_in s.blocks first)) v.on_board.version_is q.1.1.0;
                right = q.1.1.1.0;
              },
            );
            once = v.once;
            unasked = v.unasked;
          };
          starts = λ right whole. absurd right;
          took = λ x. absurd (true≢false (sym x));
          only = λ launch x. absurd (plain answer.Matches launch (λ k. refl) x);
          always = λ d. absurd d;
        })

    pub offer_shown : (first : ℕ) (token scratch : List ℕ) (state : a.State) (scratch' : List ℕ) (state' : a.State) →
        Offers a key r s first token scratch state o scratch' state' → Shown a key img m n i (offer first token scratch) o reg
    offer_shown first token scratch state scratch' state' x =
        let c : Call = offer first token scratch in
        cases (tested (offer_tests (length s.blocks) first token a.size scratch) (running r) s
        (Read s first (Tested (image_tests a key r s first token) (running r) s (Matching r s first))) o x.outcome)
        (refused c (λ right. right))
        (λ y. cases y.1
        (λ off. chilled c (answer.Supply _) refl (λ k. refl) (λ right. right) off.1)
        (λ on. cases (tested (image_tests a key r s first token) (running r) s (Matching r s first) o on.1)
        (refused c (λ right. right))
        (λ z. matches first token scratch z.1.0 y.0 z.0 z.1.1 z.1.2)))

  -- calls of a matched board
  module _ (s : Medium) (b : Matched) (o : Outcome) (reg : List ℕ) (v : Inv a key img m n i (matched b) s.blocks s.live) where
    pub leave_shown : o ≡ quiet answer.Done (running b.running) s → Shown a key img m n i leave o reg
    leave_shown is =
        quietly leave answer.Done (running b.running) s o reg refl (λ k. refl) (λ right. absurd right)
        (on_duty a key img m n i s.blocks s.live v.first v.len v.base b.running v.on_board.0 v.once v.unasked) is

    pub install_shown : (scratch register : List ℕ) (state : a.State) (scratch' : List ℕ) (state' : a.State) →
        Installs a key b s scratch register state o scratch' reg state' → Shown a key img m n i (install scratch register) o reg
    install_shown scratch register state scratch' state' x =
        let c : Call = install scratch register in
        let plan : List Put = installing b.place.first b.place.len (bytes_of b.vectors) in
        let said : Answer = answer.Confirmed (launch_of b.place) in
        let next : Board = running (record { place = b.place; version = b.version }) in
        let in-range : (k : ℕ) → k < 4 → k < length s.blocks = λ k lt. omega (arith, v.base.fit.0) in
        cases (tested (test (IsScratch scratch × IsRegister register) WrongLength pass) (matched b) s (Written s plan said next) o x.outcome)
        (λ y. quietly c (answer.Refused y.0) (matched b) s o reg refl (λ k. refl) (λ right. absurd right) v y.1)
        (λ y.
        let w : Wrote s plan said next o = wrote s plan said next o y.1 v.base.sized
        (in-range 3 (omega arith), (in-range 2 (omega arith), (in-range 0 (omega arith), (in-range 1 (omega arith), (in-range 2 (omega arith), tt))))) in
        subst (λ (z : Outcome). Shown a key img m n i c z reg) (sym (left_is s plan said next o w))
        (installed a key img m n i scratch register reg s.blocks v.first v.len s.live b o.writes w.supply (launch_of b.place) o.store
        v.base v.on_board.0 v.on_board.1 v.once v.unasked w.performs w.blocks_are (w.live v.on_board.0.awake)
        (λ whole.
        x.register_left
        ∙ ap (λ (z : Answer). shown (confirmation_of a key b.version b.nonce) z register) (w.answer_is ∙ cond-false (was_cut o.writes) _ _ whole))))

  -- every call
  pub step_shown : (w : World a) (e : Event a) → Inv a key img m n i w.board w.store.blocks w.store.live → Step a key w e →
      Shown a key img m n i e.call e.outcome e.register
  step_shown w e v x = go e.call x
    where
      at : (board : Board) → w.board ≡ board → Inv a key img m n i board w.store.blocks w.store.live
      at board is = subst (λ (b : Board). Inv a key img m n i b w.store.blocks w.store.live) is v

      go : (c : Call) → Made a key w c e → Shown a key img m n i c e.outcome e.register
      go (start scratch register) (is, x) = start_shown w.store scratch register w.state e.outcome e.scratch e.register e.state (at cold is) x
      go (stage block bytes) ((r, is, x), _, _, _) = stage_shown w.store r e.outcome e.register (at (running r) is) block bytes x
      go (cycle c byte dma_byte scratch) ((r, is, x), _, _) = cycle_shown w.store r e.outcome e.register (at (running r) is) c byte dma_byte scratch e.scratch x
      go (offer first token scratch) ((r, is, x), _) = offer_shown w.store r e.outcome e.register (at (running r) is) first token scratch w.state e.scratch e.state x
      go leave ((b, is, x), _, _, _) = leave_shown w.store b e.outcome e.register (at (matched b) is) x
      go (install scratch register) (b, is, x) = install_shown w.store b e.outcome e.register (at (matched b) is) scratch register w.state e.scratch e.state x
      go reset (is, _, _, _) = quietly reset answer.Done cold w.store e.outcome e.register refl (λ k. refl) (λ right. absurd right)
          (chill a key img m n i w.board w.store.blocks w.store.live w.store.live v) is
