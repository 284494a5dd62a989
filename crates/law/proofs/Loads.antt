-- What an accepted load leaves: the image in its place, and a store that reads finished.
use Rattle.std.proofs.Common.{◌≡◌, ℕ, ◌<◌, ◌≤◌, Bool, true, false, cond, List, [], ◌∷◌, length, set, sym, refl, ap, ◌∙◌, subst₂, arith}
use Rattle.std.specs.List.{AllByRecursion}
use Rattle.std.proofs.lemmas.List.{get_or-set_same}
use Rattle.std.proofs.ByRecursion.{All-append, All-from_get_or}
use Rattle.std.proofs.lemmas.Bool.{cond-false}
use Rattle.refusal.specs.declared.Refusal.{Refusal}
use Rattle.refusal.specs.declared.Refusal.TheVariants.{StoreSize, WrongLength, BadImage}
use Rattle.authenticator.specs.Meaning.{Meaning}
use Rattle.layout.specs.Address.{blocks_of}
use Rattle.layout.specs.Image.{IsImage, vectors_of}
use Rattle.layout.specs.Placing.{GoesPast}
use Rattle.control.specs.Blocks.{formed, pointer_to, flag_block}
use Rattle.control.specs.declared.kind.Flag.TheVariants.{Finished}
use Rattle.store.specs.Medium.{Medium, woken}
use Rattle.board.specs.States.{Board, cold}
use Rattle.board.specs.declared.answers.Answer.TheVariants as answer
use Rattle.board.specs.declared.answers.Supply.{Supply}
use Rattle.board.specs.Stored.{pages}
use Rattle.board.specs.Writes.{Put, put, was_cut}
use Rattle.board.specs.Tests.{Outcome, Tests, pass, test, Written}
use Rattle.board.specs.Calls.{IsScratch, IsStore, puts, loading}
use Rattle.law.specs.History.{World, Loaded}
use Rattle.law.specs.Law.{none}
use Rattle.law.proofs.Stored.{Sized, pointer_length, flag_length, other}
use Rattle.law.proofs.Traces.{Wrote, wrote, applied, applied-++, applied-whole}
use Rattle.law.proofs.Invariant.{Base, Good, Inv, formed_vectors, cold_good}
use Rattle.law.proofs.Keeps.{control_set}
use Rattle.law.proofs.Pages.{pages_length, puts_range, paged, base_there}
use Rattle.law.proofs.Steps.{cases, tested}

-- vectors, flag and pointer written over an image in its place
closed : (image : List ℕ) (bs : List (List ℕ)) (f l : ℕ) → Base image bs f l →
    Base image (set (set (set bs 1 (formed (vectors_of image))) 2 (flag_block Finished)) 0 (pointer_to f l)) f l
    × Good image (set (set (set bs 1 (formed (vectors_of image))) 2 (flag_block Finished)) 0 (pointer_to f l)) f l
closed image bs f l b1 = (
  control_set image bs3 f l 0 (pointer_to f l) (omega arith) (pointer_length f l) b3,
  record {
    pointer = get_or-set_same bs3 0 (pointer_to f l) [] (omega (arith, b3.fit.0));
    vectors = other bs3 0 1 (pointer_to f l) v (omega arith) (other bs2 2 1 (flag_block Finished) v (omega arith) (get_or-set_same bs 1 v [] (omega (arith, b1.fit.0))));
    ended = other bs3 0 2 (pointer_to f l) (flag_block Finished) (omega arith) (get_or-set_same bs2 2 (flag_block Finished) [] (omega (arith, b2.fit.0)));
  },
)
  where
    v : List ℕ
    v = formed (vectors_of image)

    bs2 : List (List ℕ)
    bs2 = set bs 1 v

    b2 : Base image bs2 f l
    b2 = control_set image bs f l 1 v (omega arith) (formed_vectors image bs f l b1) b1

    bs3 : List (List ℕ)
    bs3 = set bs2 2 (flag_block Finished)

    b3 : Base image bs3 f l
    b3 = control_set image bs2 f l 2 (flag_block Finished) (omega arith) (flag_length Finished) b2

-- no answer is two
not_refused : (refusal : Refusal) → answer.Refused refusal ≡ answer.Done → ⊥
not_refused refusal e = let z : ◌≡◌ {A = ℕ} 0 1 = cc in omega arith

-- nor does a load that is accepted have a write cut
not_cut : (t : Bool) (s : Supply) → cond t (answer.Supply s) answer.Done ≡ answer.Done → t ≡ false
not_cut true s e = let z : ◌≡◌ {A = ℕ} 0 1 = cc in absurd (omega arith)
not_cut false s e = refl

-- the tests of a load
abbrev load_tests : Medium → List ℕ → List ℕ → Tests
load_tests m image scratch =
    test (IsScratch scratch) WrongLength (test (IsStore m) StoreSize (test (IsImage image × (GoesPast (length m.blocks) 4 (length image) → ⊥)) BadImage pass))

-- the writes of a load that was accepted were all done
load_left : (a : Meaning) (key : a.Key) (factory : List ℕ) (m : Medium) (o : Outcome) → Sized m.blocks → IsStore m → IsImage factory →
    (GoesPast (length m.blocks) 4 (length factory) → ⊥) → o.answer ≡ answer.Done → Wrote (woken m) (loading factory) answer.Done cold o →
    Inv a key factory none 0 0 o.board o.store.blocks o.store.live
load_left a key factory m o s fit is room accepted w =
    subst₂ (λ (b : Board) (t : List (List ℕ)). Inv a key factory none 0 0 b t o.store.live) (sym board_is) (sym blocks_are)
    (cold_good a key factory none 0 0 _ o.store.live 4 (length factory) both.0 both.1 (omega arith) (λ z. refl))
  where
    whole : was_cut o.writes ≡ false
    whole = not_cut (was_cut o.writes) w.supply (sym w.answer_is ∙ accepted)

    board_is : o.board ≡ cold
    board_is = w.board_is ∙ cond-false (was_cut o.writes) cold cold whole

    control : List Put
    control = put 1 (formed (vectors_of factory)) ∷ put 2 (flag_block Finished) ∷ put 0 (pointer_to 4 (length factory)) ∷ []

    blocks_are : o.store.blocks ≡ applied control (paged 4 factory m.blocks)
    blocks_are =
        w.blocks_are ∙ (applied-whole (loading factory) o.writes m.blocks w.performs whole
        ∙ applied-++ (puts 4 (pages (blocks_of (length factory)) factory)) control m.blocks)

    both : Base factory (applied control (paged 4 factory m.blocks)) 4 (length factory)
        × Good factory (applied control (paged 4 factory m.blocks)) 4 (length factory)
    both = closed factory (paged 4 factory m.blocks) 4 (length factory)
        (base_there factory m.blocks 4 is (omega arith, omega arith, omega arith) s fit)

-- each write of a load is into a block of the store
loading_range : (factory : List ℕ) (count : ℕ) → 8 ≤ count → (GoesPast count 4 (length factory) → ⊥) → AllByRecursion (λ (p : Put). p.block < count) (loading factory)
loading_range factory count many room =
    let n : ℕ = blocks_of (length factory) in
    All-append (λ (p : Put). p.block < count) (puts 4 (pages n factory)) _ (puts_range 4 count (pages n factory) (omega (arith, pages_length n factory)))
    (omega arith, (omega arith, (omega arith, tt)))

-- the invariant where a life begins
pub loaded_inv : (a : Meaning) (key : a.Key) (factory : List ℕ) (w : World a) → Loaded factory w →
    Inv a key factory none 0 0 w.board w.store.blocks w.store.live
loaded_inv a key factory w x =
    let m : Medium = x.before in
    let s : Sized m.blocks = All-from_get_or (λ (c : List ℕ). length c ≡ 512) m.blocks [] x.whole in
    subst₂ (λ (b : Board) (t : Medium). Inv a key factory none 0 0 b t.blocks t.live) (sym x.board_is) (sym x.store_is)
    (cases (tested (load_tests m factory x.scratch) cold m (Written (woken m) (loading factory) answer.Done cold) x.outcome x.loads.outcome)
    (λ y. absurd (not_refused y.0 (sym (ap (λ (o : Outcome). o.answer) y.1) ∙ x.accepted)))
    (λ y. load_left a key factory m x.outcome s y.0.1.0 y.0.1.1.0.0 y.0.1.1.0.1 x.accepted
    (wrote (woken m) (loading factory) answer.Done cold x.outcome y.1 s (loading_range factory (length m.blocks) y.0.1.0.0 y.0.1.1.0.1))))
