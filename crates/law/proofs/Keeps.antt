-- The writes of each call keep the invariant, wherever one is cut.
use Rattle.std.proofs.Common.{◌≡◌, ℕ, suc, ◌<◌, ◌≤◌, Bool, true, false, cond, List, [], ◌∷◌, length, get_or, set, refl, ap, ◌∙◌, arith}
use Rattle.std.specs.List.{AllByRecursion}
use Rattle.std.proofs.lemmas.List.{get_or-set_same}
use Rattle.authenticator.specs.Meaning.{Meaning}
use Rattle.layout.specs.Image.{version_of, vectors_of}
use Rattle.layout.specs.Placing.{Fills}
use Rattle.control.specs.Blocks.{formed, pointer_to, flag_block, flag_in}
use Rattle.control.specs.declared.kind.Flag.{Flag}
use Rattle.control.specs.declared.kind.Flag.TheVariants.{Finished, Unfinished}
use Rattle.control.proofs.Held.{flag_reads_back}
use Rattle.board.specs.declared.states.Running.{Running}
use Rattle.board.specs.declared.states.Matched.{Matched}
use Rattle.board.specs.declared.answers.Launch.{Launch}
use Rattle.board.specs.declared.answers.Supply.{Supply}
use Rattle.board.specs.declared.answers.Answer.TheVariants as answer
use Rattle.board.specs.States.{cold, running, bytes_of}
use Rattle.board.specs.Writes.{Put, put, Write, written, was_cut}
use Rattle.board.specs.Calls.{closing, installing}
use Rattle.law.specs.Law.{Match, counted, unfinished, second_took}
use Rattle.law.proofs.Stored.{pointer_length, flag_length, other}
use Rattle.law.proofs.Traces.{Performs, all_done, done_next, cut_here}
use Rattle.law.proofs.Invariant.{Base, Good, Half, Duty, Ready, Inv, is_flag, control_outside, formed_vectors, base_set, good_set, half_set, good_at, half_at, cold_good, cold_half, on_duty}

-- a write into a control block keeps the image
pub control_set : (img : List ℕ) (bs : List (List ℕ)) (f l b : ℕ) (x : List ℕ) → b < 4 → length x ≡ 512 → Base img bs f l → Base img (set bs b x) f l
control_set img bs f l b x lt long h = base_set img bs f l b x h (control_outside (length bs) f l b h.lies lt) long

-- the last three writes of an install, from an unfinished store: by an install or a start
module _ (a : Meaning) (key : a.Key) (img : List ℕ) (m : Match) (n i f l : ℕ) (live : Bool) (r : Running)
    (first_is : r.place.first ≡ f) (len_is : r.place.len ≡ l) (version_is : r.version ≡ version_of img) (s : Supply) (launch : Launch) where
  -- the flag's write, with pointer and vectors in place
  last : (bs : List (List ℕ)) (ws : List Write) → Base img bs f l → Half bs f l n i →
      get_or bs 0 [] ≡ pointer_to f l → get_or bs 1 [] ≡ formed (vectors_of img) → (was_cut ws ≡ false → live ≡ true) →
      Performs (put 2 (flag_block Finished) ∷ []) ws →
      Inv a key img m (counted (cond (was_cut ws) (answer.Supply s) (answer.Confirmed launch)) n) i
      (cond (was_cut ws) cold (running r)) (written ws bs) live
  last bs ws b h p v on (done_next all_done) =
      let x : List ℕ = flag_block Finished in
      on_duty a key img m (suc n) i (set bs 2 x) live f l (control_set img bs f l 2 x (omega arith) (flag_length Finished) b) r
      (record { good = good_at img bs f l x b.fit.0 p v refl; awake = on refl; first_is = first_is; len_is = len_is; version_is = version_is })
      (omega (arith, h.unconfirmed)) (λ z. absurd (omega (arith, h.asked)))
  last bs ws b h p v on (cut_here y long) = go (flag_in y) refl
    where
      b' : Base img (set bs 2 y) f l
      b' = control_set img bs f l 2 y (omega arith) long b

      go : (t : Flag) → flag_in y ≡ t → Inv a key img m n i cold (set bs 2 y) live
      go Finished e = cold_good a key img m n i (set bs 2 y) live f l b' (good_at img bs f l y b.fit.0 p v (is_flag y e))
          (omega (arith, h.unconfirmed)) (λ z. h.unconfirmed)
      go Unfinished e = cold_half a key img m n i (set bs 2 y) live f l b' (half_at bs f l n i y b.fit.0 h.pointer e h.unconfirmed h.asked)

  -- the three writes, of which one may be cut
  pub ends : (bs : List (List ℕ)) (vs : List ℕ) (ws : List Write) → Base img bs f l → Half bs f l n i → vs ≡ vectors_of img →
      (was_cut ws ≡ false → live ≡ true) → Performs (closing f l vs) ws →
      Inv a key img m (counted (cond (was_cut ws) (answer.Supply s) (answer.Confirmed launch)) n) i
      (cond (was_cut ws) cold (running r)) (written ws bs) live
  ends bs vs ws b h e on (cut_here y long) =
      cold_half a key img m n i (set bs 0 y) live f l (control_set img bs f l 0 y (omega arith) long b) (half_set bs f l n i 0 y (omega arith) h)
  ends bs vs ws b h e on (done_next (cut_here y long)) =
      let p : List ℕ = pointer_to f l in
      let bs1 : List (List ℕ) = set bs 0 p in
      cold_half a key img m n i (set bs1 1 y) live f l
      (control_set img bs1 f l 1 y (omega arith) long (control_set img bs f l 0 p (omega arith) (pointer_length f l) b))
      (half_set bs1 f l n i 1 y (omega arith) (half_set bs f l n i 0 p (omega arith) h))
  ends bs vs ws b h e on (done_next (done_next {ws = ws'} q)) =
      let p : List ℕ = pointer_to f l in
      let v : List ℕ = formed vs in
      let bs1 : List (List ℕ) = set bs 0 p in
      let b1 = control_set img bs f l 0 p (omega arith) (pointer_length f l) b in
      last (set bs1 1 v) ws'
      (control_set img bs1 f l 1 v (omega arith) (ap (λ (x : List ℕ). length (formed x)) e ∙ formed_vectors img bs f l b) b1)
      (half_set bs1 f l n i 1 v (omega arith) (half_set bs f l n i 0 p (omega arith) h))
      (other bs1 1 0 v p (omega arith) (get_or-set_same bs 0 p [] (omega (arith, b.fit.0))))
      (get_or-set_same bs1 1 v [] (omega (arith, b1.fit.0)) ∙ ap formed e) on q

-- the five writes of an install, on a matched board
module _ (a : Meaning) (key : a.Key) (img : List ℕ) (m m' : Match) (n i : ℕ) (bs : List (List ℕ)) (f l : ℕ) (live live' : Bool) (b : Matched)
    (h : Base img bs f l) (d : Duty img bs live f l b.running) (y : Ready a key img m bs b) (once : n ≤ 1) (unasked : i ≡ 0 → n ≡ 0)
    (s : Supply) (launch : Launch) where
  abbrev p : List ℕ
  p = pointer_to b.place.first b.place.len

  -- the running image after the first write
  h1 : Base img (set bs 3 p) f l
  h1 = control_set img bs f l 3 p (omega arith) (pointer_length b.place.first b.place.len) h

  -- its store is finished still
  g1 : Good img (set bs 3 p) f l
  g1 = good_set img bs f l 3 p (omega arith) d.good

  -- the offered image after the first write
  c1 : Base m.image (set bs 3 p) b.place.first b.place.len
  c1 = control_set m.image bs b.place.first b.place.len 3 p (omega arith) (pointer_length b.place.first b.place.len)
      (record { sized = h.sized; fit = h.fit; lies = y.lies; says = y.says; image = y.image })

  -- where the second leaves the flag reading unfinished, the install is on its way
  half_when : (x : List ℕ) → flag_in x ≡ Unfinished → Half (set (set bs 3 p) 2 x) b.place.first b.place.len 0 (suc i)
  half_when x e = half_at (set bs 3 p) b.place.first b.place.len 0 (suc i) x h1.fit.0 (get_or-set_same bs 3 p [] (omega (arith, h.fit.0))) e refl (omega arith)

  -- a cut of the second write: the install took effect or not, by what the flag reads
  second_cut : (x : List ℕ) (t : Flag) → length x ≡ 512 → flag_in x ≡ t →
      Inv a key (cond (unfinished t) m.image img) m' (cond (unfinished t) 0 n) (cond (unfinished t) (suc i) i) cold (set (set bs 3 p) 2 x) live'
  second_cut x Finished long e = cold_good a key img m' n i (set (set bs 3 p) 2 x) live' f l (control_set img (set bs 3 p) f l 2 x (omega arith) long h1)
      (good_at img (set bs 3 p) f l x h1.fit.0 g1.pointer g1.vectors (is_flag x e)) once unasked
  second_cut x Unfinished long e = cold_half a key m.image m' 0 (suc i) (set (set bs 3 p) 2 x) live' b.place.first b.place.len
      (control_set m.image (set bs 3 p) b.place.first b.place.len 2 x (omega arith) long c1) (half_when x e)

  -- the five writes, of which one may be cut
  pub install_keeps : (ws : List Write) → (was_cut ws ≡ false → live' ≡ true) →
      Performs (installing b.place.first b.place.len (bytes_of b.vectors)) ws →
      Inv a key (cond (second_took ws) m.image img) m'
      (counted (cond (was_cut ws) (answer.Supply s) (answer.Confirmed launch)) (cond (second_took ws) 0 n)) (cond (second_took ws) (suc i) i)
      (cond (was_cut ws) cold (running (record { place = b.place; version = b.version }))) (written ws bs) live'
  install_keeps ws on (cut_here x long) =
      cold_good a key img m' n i (set bs 3 x) live' f l (control_set img bs f l 3 x (omega arith) long h) (good_set img bs f l 3 x (omega arith) d.good) once unasked
  install_keeps ws on (done_next (cut_here x long)) = second_cut x (flag_in x) long refl
  install_keeps ws on (done_next (done_next {ws = ws'} q)) =
      let x : List ℕ = flag_block Unfinished in
      ends a key m.image m' 0 (suc i) b.place.first b.place.len live' (record { place = b.place; version = b.version })
      refl refl y.version_is s launch (set (set bs 3 p) 2 x) (bytes_of b.vectors) ws'
      (control_set m.image (set bs 3 p) b.place.first b.place.len 2 x (omega arith) (flag_length Unfinished) c1)
      (half_when x (flag_reads_back Unfinished)) y.vectors_are on q

-- a write into no guarded block: not 0, 1 or 2, and none of the image's
abbrev pub Unguarded : ℕ → ℕ → ℕ → Put → Type 0
Unguarded count f l p = (3 ≤ p.block) × (Fills f l p.block → ⊥) × (length p.bytes ≡ 512) × (p.block < count)

-- such writes keep the image, and a store that is finished
pub unguarded : (img : List ℕ) (bs : List (List ℕ)) (count f l : ℕ) (plan : List Put) (ws : List Write) → AllByRecursion (Unguarded count f l) plan →
    Performs plan ws → Base img bs f l → Good img bs f l → Base img (written ws bs) f l × Good img (written ws bs) f l
unguarded img bs count f l plan ws u all_done b g = (b, g)
unguarded img bs count f l plan ws u (done_next {p = p} {plan = plan'} {ws = ws'} q) b g =
    unguarded img (set bs p.block p.bytes) count f l plan' ws' u.1 q
    (base_set img bs f l p.block p.bytes b u.0.1 u.0.2) (good_set img bs f l p.block p.bytes u.0.0 g)
unguarded img bs count f l plan ws u (cut_here {p = p} y long) b g =
    (base_set img bs f l p.block y b u.0.1 long, good_set img bs f l p.block y u.0.0 g)
