-- What one call shows of the law, by the writes that it made.
use Rattle.std.proofs.Common.{◌≡◌, ℕ, suc, ◌<◌, ◌≤◌, Bool, true, false, cond, List, [], sym, refl, ap, ◌∙◌, ap₂, inl, inr, arith}
use Rattle.std.specs.List.{AllByRecursion}
use Rattle.std.proofs.lemmas.Bool.{true≢false, cond-true, cond-false}
use Rattle.authenticator.specs.Meaning.{Meaning, padded}
use Rattle.layout.specs.Image.{version_of, nonce_of, vectors_of}
use Rattle.control.specs.Blocks.{flag_block}
use Rattle.control.specs.declared.kind.Flag.TheVariants.{Finished}
use Rattle.planner.specs.Token.{token_of}
use Rattle.planner.specs.Confirmation.{confirmation_of}
use Rattle.store.specs.Medium.{Medium}
use Rattle.board.specs.declared.states.Running.{Running}
use Rattle.board.specs.declared.states.Matched.{Matched}
use Rattle.board.specs.declared.answers.Launch.{Launch}
use Rattle.board.specs.declared.answers.Supply.{Supply}
use Rattle.board.specs.declared.answers.Answer.{Answer}
use Rattle.board.specs.declared.answers.Answer.TheVariants as answer
use Rattle.board.specs.States.{Board, cold, running, bytes_of}
use Rattle.board.specs.Writes.{Put, Write, written, was_cut}
use Rattle.board.specs.Tests.{Outcome, quiet}
use Rattle.board.specs.Calls.{IsScratch, IsRegister, closing, installing}
use Rattle.law.specs.History.{Call, start, stage, cycle, offer, leave, install, reset}
use Rattle.law.specs.Law.{Match, brought, is_match, second_took, took_effect, counted, Done}
use Rattle.law.proofs.Traces.{Performs, all_done, done_next, cut_here, Wrote}
use Rattle.law.proofs.Invariant.{Base, Good, Half, Duty, Ready, Inv, flags_differ, cold_good, on_duty}
use Rattle.law.proofs.Keeps.{ends, install_keeps, Unguarded, unguarded}

-- an image runs
abbrev pub Up : Board → Type 0
Up board = (r : Running) × (board ≡ running r)

-- a start with right buffers
abbrev pub RightStart : Call → Type 0
RightStart (start scratch register) = IsScratch scratch × IsRegister register
RightStart (stage block bytes) = ⊥
RightStart (cycle c byte dma_byte scratch) = ⊥
RightStart (offer first token scratch) = ⊥
RightStart leave = ⊥
RightStart (install scratch register) = ⊥
RightStart reset = ⊥

-- img is current ahead of the call, m the last match; n and i are as in the invariant
pub record Shown (a : Meaning) (key : a.Key) (img : List ℕ) (m : Match) (n i : ℕ) (c : Call) (o : Outcome) (reg : List ℕ) : Type 0 where
  pub inv : Inv a key (cond (took_effect c o.writes) m.image img) (cond (is_match o.answer) (brought c o.store) m)
      (counted o.answer (cond (took_effect c o.writes) 0 n)) (cond (took_effect c o.writes) (suc i) i)
      o.board o.store.blocks o.store.live
  pub starts : RightStart c → was_cut o.writes ≡ false → Up o.board
  pub took : took_effect c o.writes ≡ true → (version_of img < version_of m.image) × (m.token ≡ token_of a key m.image)
  pub only : (launch : Launch) → o.answer ≡ answer.Confirmed launch →
      Done 2 (flag_block Finished) o.writes × Up o.board
      × ((j : List ℕ) → j ≡ cond (took_effect c o.writes) m.image img → reg ≡ padded (confirmation_of a key (version_of j) (nonce_of j)))
  pub always : Done 2 (flag_block Finished) o.writes → (launch : Launch) × (o.answer ≡ answer.Confirmed launch)

-- an answer that counts for nothing does not confirm
pub plain : (said : Answer) (launch : Launch) → ((k : ℕ) → counted said k ≡ k) → said ≡ answer.Confirmed launch → ⊥
plain said launch none e = let one : counted said 0 ≡ 1 = ap (λ (x : Answer). counted x 0) e in omega (arith, none 0)

-- nor does one after a cut
plain_or_cut : (t : Bool) (s : Supply) (said : Answer) (launch : Launch) → ((k : ℕ) → counted said k ≡ k) →
    cond t (answer.Supply s) said ≡ answer.Confirmed launch → ⊥
plain_or_cut true s said launch none e = plain (answer.Supply s) launch (λ k. refl) e
plain_or_cut false s said launch none e = plain said launch none e

-- one that confirms, where no write was cut
whole-answer : (t : Bool) (s : Supply) (l launch : Launch) → cond t (answer.Supply s) (answer.Confirmed l) ≡ answer.Confirmed launch → t ≡ false
whole-answer true s l launch e = absurd (plain (answer.Supply s) launch (λ k. refl) e)
whole-answer false s l launch e = refl

-- where no write was cut the call confirms
answers : (t : Bool) (s : Supply) (l : Launch) → t ≡ false → (launch : Launch) × (cond t (answer.Supply s) (answer.Confirmed l) ≡ answer.Confirmed launch)
answers t s l e = (l, cond-false t _ _ e)

-- and an image runs
whole-runs : (t : Bool) (r : Running) → t ≡ false → Up (cond t cold (running r))
whole-runs t r e = (r, cond-false t _ _ e)

-- nor does a cut write make a match
no_match : (t : Bool) (s : Supply) (said : Answer) → is_match said ≡ false → is_match (cond t (answer.Supply s) said) ≡ false
no_match true s said unmatched = refl
no_match false s said unmatched = unmatched

-- the write that ends an install is done exactly where none is cut
closing_done : (f l : ℕ) (vs : List ℕ) (ws : List Write) → Performs (closing f l vs) ws → was_cut ws ≡ false → Done 2 (flag_block Finished) ws
closing_done f l vs ws (cut_here y long) e = absurd (true≢false e)
closing_done f l vs ws (done_next (cut_here y long)) e = absurd (true≢false e)
closing_done f l vs ws (done_next (done_next (cut_here y long))) e = absurd (true≢false e)
closing_done f l vs ws (done_next (done_next (done_next all_done))) e = inr (inr (inl (refl, refl)))

-- where it is done none was cut
closing_whole : (f l : ℕ) (vs : List ℕ) (ws : List Write) → Performs (closing f l vs) ws → Done 2 (flag_block Finished) ws → was_cut ws ≡ false
closing_whole f l vs ws (cut_here y long) d = absurd d
closing_whole f l vs ws (done_next (cut_here y long)) (inl d) = absurd (omega (arith, d.0))
closing_whole f l vs ws (done_next (cut_here y long)) (inr d) = absurd d
closing_whole f l vs ws (done_next (done_next (cut_here y long))) (inl d) = absurd (omega (arith, d.0))
closing_whole f l vs ws (done_next (done_next (cut_here y long))) (inr (inl d)) = absurd (omega (arith, d.0))
closing_whole f l vs ws (done_next (done_next (cut_here y long))) (inr (inr d)) = absurd d
closing_whole f l vs ws (done_next (done_next (done_next all_done))) d = refl

-- an install with no write cut took effect and was ended
install_done : (f l : ℕ) (vs : List ℕ) (ws : List Write) → Performs (installing f l vs) ws → was_cut ws ≡ false →
    (second_took ws ≡ true) × Done 2 (flag_block Finished) ws
install_done f l vs ws (cut_here y long) e = absurd (true≢false e)
install_done f l vs ws (done_next (cut_here y long)) e = absurd (true≢false e)
install_done f l vs ws (done_next (done_next {ws = ws'} p)) e = (refl, inr (inr (closing_done f l vs ws' p e)))

-- one that was ended had no write cut
install_whole : (f l : ℕ) (vs : List ℕ) (ws : List Write) → Performs (installing f l vs) ws → Done 2 (flag_block Finished) ws → was_cut ws ≡ false
install_whole f l vs ws (cut_here y long) d = absurd d
install_whole f l vs ws (done_next (cut_here y long)) (inl d) = absurd (omega (arith, d.0))
install_whole f l vs ws (done_next (cut_here y long)) (inr d) = absurd d
install_whole f l vs ws (done_next (done_next p)) (inl d) = absurd (omega (arith, d.0))
install_whole f l vs ws (done_next (done_next p)) (inr (inl d)) = absurd (flags_differ d.1)
install_whole f l vs ws (done_next (done_next {ws = ws'} p)) (inr (inr d)) = closing_whole f l vs ws' p d

-- no unguarded write is one of the flag
no_flag : (count f l : ℕ) (plan : List Put) (ws : List Write) → AllByRecursion (Unguarded count f l) plan → Performs plan ws → Done 2 (flag_block Finished) ws → ⊥
no_flag count f l plan ws u all_done d = d
no_flag count f l plan ws u (done_next p) (inl d) = omega (arith, u.0.0, d.0)
no_flag count f l plan ws u (done_next {plan = plan'} {ws = ws'} p) (inr d) = no_flag count f l plan' ws' u.1 p d
no_flag count f l plan ws u (cut_here y long) d = d

-- a call that writes nothing takes no effect
idle : (c : Call) → took_effect c [] ≡ false
idle (start scratch register) = refl
idle (stage block bytes) = refl
idle (cycle c byte dma_byte scratch) = refl
idle (offer first token scratch) = refl
idle leave = refl
idle (install scratch register) = refl
idle reset = refl

-- what a call that wrote left
abbrev pub left : List Write → Supply → Answer → Board → Medium → Outcome
left ws s said board e = record { writes = ws; answer = cond (was_cut ws) (answer.Supply s) said; board = cond (was_cut ws) cold board; store = e }

-- it is what is known of its outcome
pub left_is : (m : Medium) (plan : List Put) (said : Answer) (board : Board) (o : Outcome) (w : Wrote m plan said board o) →
    o ≡ left o.writes w.supply said board o.store
left_is m plan said board o w i = record { writes = o.writes; answer = w.answer_is i; board = w.board_is i; store = o.store }

module _ (a : Meaning) (key : a.Key) (img : List ℕ) (m : Match) (n i : ℕ) where
  -- calls that write nothing, and say nothing of a match or an install
  pub still : (c : Call) (said : Answer) (board : Board) (e : Medium) (reg : List ℕ) → is_match said ≡ false → ((k : ℕ) → counted said k ≡ k) →
      (RightStart c → Up board) → Inv a key img m n i board e.blocks e.live → Shown a key img m n i c (quiet said board e) reg
  still c said board e reg unmatched none s v = record {
    inv = rw (idle c, unmatched, none n) v;
    starts = λ right whole. s right;
    took = λ t. absurd (true≢false (sym t ∙ idle c));
    only = λ launch is. absurd (plain said launch none is);
    always = λ d. absurd d;
  }

  -- stage and cycle: writes into no guarded block
  pub writes : (c : Call) (said : Answer) (bs : List (List ℕ)) (count f l : ℕ) (live : Bool) (r : Running) (plan : List Put) (ws : List Write)
      (s : Supply) (e : Medium) (reg : List ℕ) →
      is_match said ≡ false → ((k : ℕ) → counted said k ≡ k) → took_effect c ws ≡ false → (RightStart c → ⊥) →
      Base img bs f l → Duty img bs live f l r → n ≤ 1 → (i ≡ 0 → n ≡ 0) →
      AllByRecursion (Unguarded count f l) plan → Performs plan ws → e.blocks ≡ written ws bs → (was_cut ws ≡ false → e.live ≡ true) →
      Shown a key img m n i c (left ws s said (running r) e) reg
  writes c said bs count f l live r plan ws s e reg unmatched none idles wrong b d once un u p blocks_are on = record {
    inv = rw (idles, no_match (was_cut ws) s said unmatched, blocks_are) (go (was_cut ws) refl);
    starts = λ right whole. absurd (wrong right);
    took = λ t. absurd (true≢false (sym t ∙ idles));
    only = λ launch is. absurd (plain_or_cut (was_cut ws) s said launch none is);
    always = λ x. absurd (no_flag count f l plan ws u p x);
  }
    where
      kept : Base img (written ws bs) f l × Good img (written ws bs) f l
      kept = unguarded img bs count f l plan ws u p b d.good

      go : (t : Bool) → was_cut ws ≡ t →
          Inv a key img m (counted (cond t (answer.Supply s) said) n) i (cond t cold (running r)) (written ws bs) e.live
      go true is = cold_good a key img m n i (written ws bs) e.live f l kept.0 kept.1 once un
      go false is = rw (none n) (on_duty a key img m n i (written ws bs) e.live f l kept.0 r
          (record { good = kept.1; awake = on is; first_is = d.first_is; len_is = d.len_is; version_is = d.version_is }) once un)

  -- a start that ends an install
  pub ending : (scratch register reg : List ℕ) (bs : List (List ℕ)) (f l : ℕ) (r : Running) (vs : List ℕ) (ws : List Write)
      (s : Supply) (launch : Launch) (e : Medium) →
      Base img bs f l → Half bs f l n i → r.place.first ≡ f → r.place.len ≡ l → r.version ≡ version_of img → vs ≡ vectors_of img →
      Performs (closing f l vs) ws → e.blocks ≡ written ws bs → (was_cut ws ≡ false → e.live ≡ true) →
      (was_cut ws ≡ false → reg ≡ padded (confirmation_of a key (version_of img) (nonce_of img))) →
      Shown a key img m n i (start scratch register) (left ws s (answer.Confirmed launch) (running r) e) reg
  ending scratch register reg bs f l r vs ws s launch e b h first_is len_is version_is vs-is p blocks_are on told = record {
    inv = rw (no_match (was_cut ws) s (answer.Confirmed launch) refl, blocks_are) (ends a key img m n i f l e.live r first_is len_is version_is s launch bs vs ws b h vs-is on p);
    starts = λ right whole. whole-runs (was_cut ws) r whole;
    took = λ t. absurd (true≢false (sym t));
    only = λ launch' is.
        let whole = whole-answer (was_cut ws) s launch launch' is in (
          closing_done f l vs ws p whole,
          whole-runs (was_cut ws) r whole,
          λ j j-is. told whole ∙ ap (λ (x : List ℕ). padded (confirmation_of a key (version_of x) (nonce_of x))) (sym j-is),
        );
    always = λ x. answers (was_cut ws) s launch (closing_whole f l vs ws p x);
  }

  -- an install
  pub installed : (scratch register reg : List ℕ) (bs : List (List ℕ)) (f l : ℕ) (live : Bool) (b : Matched) (ws : List Write)
      (s : Supply) (launch : Launch) (e : Medium) →
      Base img bs f l → Duty img bs live f l b.running → Ready a key img m bs b → n ≤ 1 → (i ≡ 0 → n ≡ 0) →
      Performs (installing b.place.first b.place.len (bytes_of b.vectors)) ws → e.blocks ≡ written ws bs →
      (was_cut ws ≡ false → e.live ≡ true) →
      (was_cut ws ≡ false → reg ≡ padded (confirmation_of a key b.version b.nonce)) →
      Shown a key img m n i (install scratch register)
      (left ws s (answer.Confirmed launch) (running (record { place = b.place; version = b.version })) e) reg
  installed scratch register reg bs f l live b ws s launch e h d y once un p blocks_are on told = record {
    inv = rw (no_match (was_cut ws) s (answer.Confirmed launch) refl, blocks_are) (install_keeps a key img m m n i bs f l live e.live b h d y once un s launch ws on p);
    starts = λ right whole. absurd right;
    took = λ t. (y.newer, y.right);
    only = λ launch' is.
        let whole = whole-answer (was_cut ws) s launch launch' is in
        let t = install_done b.place.first b.place.len (bytes_of b.vectors) ws p whole in (
          t.1,
          whole-runs (was_cut ws) _ whole,
          λ j j-is.
              let this : j ≡ m.image = j-is ∙ cond-true (second_took ws) m.image img t.0 in
              told whole
              ∙ ap₂ (λ (x : ℕ) (z : List ℕ). padded (confirmation_of a key x z)) (y.version_is ∙ ap version_of (sym this)) (y.nonce_is ∙ ap nonce_of (sym this)),
        );
    always = λ x. answers (was_cut ws) s launch (install_whole b.place.first b.place.len (bytes_of b.vectors) ws p x);
  }
