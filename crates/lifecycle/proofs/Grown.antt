-- A life begins, and goes on by one call.
use Rattle.std.proofs.Common.{◌≡◌, ℕ, Bool, true, false, cond, List, [], ◌∷◌, ◌++◌, length, replicate, Some, None, Option, sym, refl, ap, ◌∙◌, subst}
use Rattle.authenticator.specs.Meaning.{Meaning}
use Rattle.store.specs.Medium.{Medium, Whole}
use Rattle.board.specs.declared.answers.Answer.TheVariants.{Done}
use Rattle.board.specs.Results.{outcome}
use Rattle.board.specs.States.{cold}
use Rattle.board.specs.Tests.{Outcome}
use Rattle.board.specs.Writes.{Write}
use Rattle.board.specs.Answers.{cleared}
use Rattle.board.specs.Calls.{Loads}
use Rattle.board.specs.declared.answers.Answer.{Answer}
use Rattle.board.specs.declared.results.Board.{Board as Held}
use Rattle.law.specs.History.{World, Event, Step, Loaded, leaves}
use Rattle.law.specs.Law.{Law}
use Rattle.lifecycle.specs.declared.journal.Call.{Call}
use Rattle.lifecycle.specs.declared.journal.Entry.{Entry}
use Rattle.lifecycle.specs.declared.journal.Standing.{Standing}
use Rattle.lifecycle.specs.declared.life.Life.{Life}
use Rattle.lifecycle.specs.Journal.{board_of, board_in, call_of, kept_of, Tells, Told, nothing, more}
use Rattle.lifecycle.specs.Lived.{Lived, Continues, world, Bench, bench, Performed, Grows, Used, uses_register, shown_by}

module _ (a : Meaning) (key : a.Key) (factory : List ℕ) where
  -- a load begins one
  begins : (journal : List Entry) (w : World a) → journal ≡ [] → Loaded factory w → Lived a key factory journal w
  begins journal w e l = record {
    begun = w;
    loaded = l;
    events = [];
    life = tt;
    told = subst (λ (j : List Entry). Told {a = a} [] j) (sym e) nothing;
    leads = refl;
    kept = tt;
  }

  -- one event more
  grown : Law a key → (journal : List Entry) (w w' : World a) (e : Event a) (n : Entry) →
      Step a key w e → Tells e n → leaves e ≡ w' → Lived a key factory journal w → Lived a key factory (journal ++ (n ∷ [])) w'
  grown law journal w w' e n s t leads l =
      let step = subst (λ (x : World a). Step a key x e) (sym l.leads) s in
      record {
        begun = l.begun;
        loaded = l.loaded;
        events = e ∷ l.events;
        life = (l.life, step);
        told = more l.told t;
        leads = leads;
        kept = (law factory l.begun l.loaded e l.events (l.life, step), l.kept);
      }

  -- the register that the journal keeps is the event's
  register_kept : (uses : Bool) (before seen left : List ℕ) → Used uses before seen left → kept_of seen ≡ kept_of (cond uses left [])
  register_kept true before seen left e = ap kept_of e
  register_kept false before seen left e = ap kept_of e.0

  -- a call that was made, or not, keeps a life lawful
  pub goes_on : Law a key → (journal journal' : List Entry) (b b' : Bench a) (call : Call) (answer : Option Answer) →
      Performed a key b call answer b' → Grows journal call b.scratch b.register answer b'.world.board b'.register journal' →
      Lived a key factory journal b.world → Lived a key factory journal' b'.world
  goes_on law journal journal' b b' call (Some answer) p g l =
      let e : Event a = p.0 in
      let n : Entry = g.0 in
      let tells : Tells e n = record {
        scratch = b.scratch;
        register = b.register;
        scratch_len = sym g.1.scratch_len;
        register_len = sym g.1.register_len;
        call = p.2 ∙ ap (λ (c : Call). call_of c b.scratch b.register) (sym g.1.call_is);
        answer = p.3 ∙ sym g.1.answer_is;
        board = ap (λ (w : World a). w.board) p.4 ∙ sym g.1.board_is;
        shown = register_kept (uses_register call) b.register e.register b'.register p.6 ∙ sym g.1.shown_is;
      } in
      subst (λ (j : List Entry). Lived a key factory j b'.world) (sym g.2)
      (grown law journal b.world b'.world e n p.1 tells p.4 l)
  goes_on law journal journal' b b' call None p g l =
      subst (λ (j : List Entry). Lived a key factory j b'.world) (sym g)
      (subst (λ (x : Bench a). Lived a key factory journal x.world) (sym p.1) l)

-- An accepted load of the factory's image begins a life.
pub opens : (a : Meaning) (key : a.Key) (factory image scratch scratch' : List ℕ) (m m' : Medium) (state : a.State) (journal : List Entry) (ws : List Write) →
    journal ≡ [] → image ≡ factory → Whole m.blocks → Loads m image scratch (outcome ws Done cold m') scratch' →
    Lived a key factory journal (world cold m' state) × ((o : Outcome) × Loads m factory scratch o scratch' × (o.answer ≡ Done) × (o.store ≡ m'))
opens a key factory image scratch scratch' m m' state journal ws e same whole l =
    let loads : Loads m factory scratch (outcome ws Done cold m') scratch' =
    subst (λ (x : List ℕ). Loads m x scratch (outcome ws Done cold m') scratch') same l in
    let loaded : Loaded {a = a} factory (world cold m' state) = record {
      before = m;
      whole = whole;
      scratch = scratch;
      outcome = outcome ws Done cold m';
      scratch_left = scratch';
      loads = loads;
      accepted = refl;
      board_is = refl;
      store_is = refl;
    } in
    (begins a key factory journal (world cold m' state) e loaded, (outcome ws Done cold m', loads, refl, refl))

-- Under the key that the authenticator then has.
pub keeps_law : (a : Meaning) (key key' : a.Key) (factory : List ℕ) (journal journal' : List Entry) (b b' : Bench a) (call : Call) (answer : Option Answer) →
    Law a key → key' ≡ key → Performed a key b call answer b' →
    Grows journal call b.scratch b.register answer b'.world.board b'.register journal' →
    Lived a key factory journal b.world → Lived a key' factory journal' b'.world
keeps_law a key key' factory journal journal' b b' call answer law e p g l =
    subst (λ (k : a.Key). Lived a k factory journal' b'.world) (sym e) (goes_on a key factory law journal journal' b b' call answer p g l)

-- The board moves out of the life and back in.
pub moved : (a : Meaning) (key : a.Key) (board board₁ board₂ board₃ : Held) (m m' : Medium) (state state' : a.State) (scratch scratch' register register' : List ℕ)
    (call : Call) (answer answer' : Option Answer) → board₁ ≡ board → board₃ ≡ board₂ → answer ≡ answer' →
    Performed a key (bench (board_of board₁) m state scratch register) call answer (bench (board_of board₂) m' state' scratch' register') →
    Performed a key (bench (board_of board) m state scratch register) call answer' (bench (board_of board₃) m' state' scratch' register')
moved a key board board₁ board₂ board₃ m m' state state' scratch scratch' register register' call answer answer' e e' said p =
    subst (λ (x : Option Answer). Performed a key (bench (board_of board) m state scratch register) call x (bench (board_of board₃) m' state' scratch' register')) said
    (subst (λ (x : Held). Performed a key (bench (board_of board) m state scratch register) call answer (bench (board_of x) m' state' scratch' register')) (sym e')
    (subst (λ (x : Held). Performed a key (bench (board_of x) m state scratch register) call answer (bench (board_of board₂) m' state' scratch' register')) e p))

-- The entry that is pushed tells of the call.
pub noted : (journal journal₁ journal' : List Entry) (call : Call) (scratch register : List ℕ) (answer : Answer) (standing : Standing) (board₂ board₃ : Held)
    (register' shown : List ℕ) (s r : ℕ) → journal₁ ≡ journal → s ≡ length scratch → r ≡ length register →
    board_in standing ≡ board_of board₂ → board₃ ≡ board₂ → shown ≡ shown_by call register' →
    journal' ≡ journal₁ ++ (record { call = call; scratch = s; register = r; answer = answer; standing = standing; shown = shown } ∷ []) →
    Grows journal call scratch register (Some answer) (board_of board₃) register' journal'
noted journal journal₁ journal' call scratch register answer standing board₂ board₃ register' shown s r e es er eb e' esh ej = (
  record { call = call; scratch = s; register = r; answer = answer; standing = standing; shown = shown },
  record {
    call_is = refl;
    scratch_len = es;
    register_len = er;
    answer_is = refl;
    board_is = eb ∙ ap board_of (sym e');
    shown_is = esh;
  },
  ej ∙ ap (λ (l : List Entry). l ++ (record { call = call; scratch = s; register = r; answer = answer; standing = standing; shown = shown } ∷ [])) e,
)

-- Zeros are the same in the place of as many bytes.
pub cleared_again : (xs ys : List ℕ) → length xs ≡ length ys → cleared xs ≡ cleared ys
unfolding cleared
cleared_again xs ys e = ap (λ (n : ℕ). replicate n 0) e

-- One life goes on as a second one, and that as a third.
pub continues : {S K : Type 0} {medium : S → Medium} {a : Meaning} {key : K → a.Key} {state : K → a.State} {l l' l'' : Life S K} →
    Continues medium a key state l l' → Continues medium a key state l' l'' → Continues medium a key state l l''
continues p q = record { lawful = λ l. q.lawful (p.lawful l); same_key = q.same_key ∙ p.same_key; same_factory = q.same_factory ∙ p.same_factory }
