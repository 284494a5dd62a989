-- What every call keeps: an image in its place, and a store that a start can use.
use Rattle.std.proofs.Common.{◌≡◌, ℕ, ◌<◌, ◌≤◌, Bool, true, ◌⊎◌, List, [], length, get_or, set, sym, ap, ◌∙◌, inl, inr, ⊎_elim, arith}
use Rattle.std.specs.Str.{bytes_eq}
use Rattle.std.proofs.lemmas.List.{length-set, get_or-set_same, get_or-set_other}
use Rattle.std.proofs.ByRecursion.{All-set}
use Rattle.std.proofs.lemmas.Slice.Eq.{bytes_eq-Decides}
use Rattle.std.proofs.lemmas.Bool.{cases_Bool, cond-false}
use Rattle.authenticator.specs.Meaning.{Meaning}
use Rattle.layout.specs.Image.{length_of, version_of, nonce_of, vectors_of}
use Rattle.layout.specs.Placing.{Fills, Lies}
use Rattle.control.specs.Blocks.{formed, pointer_to, flag_block, flag_in, Legal}
use Rattle.control.specs.declared.kind.Flag.TheVariants.{Finished, Unfinished}
use Rattle.control.proofs.Formed.{length-formed}
use Rattle.control.proofs.Held.{flag_reads_back}
use Rattle.planner.specs.Token.{token_of}
use Rattle.board.specs.declared.states.Running.{Running}
use Rattle.board.specs.declared.states.Matched.{Matched}
use Rattle.board.specs.States.{Board, cold, running, matched, bytes_of}
use Rattle.board.specs.Stored.{image_at}
use Rattle.law.specs.Law.{Match}
use Rattle.law.proofs.Stored.{Sized, image_set, image_length, vectors_length, other}

-- the image lies at first, and is img
pub record Base (img : List ℕ) (bs : List (List ℕ)) (f l : ℕ) : Type 0 where
  pub sized : Sized bs
  pub fit : (8 ≤ length bs) × (length bs ≤ 112)
  pub lies : Lies (length bs) f l
  pub says : length_of (get_or bs f []) ≡ l
  pub image : image_at bs f l ≡ img

-- finished: pointer, vectors and flag are its own
pub record Good (img : List ℕ) (bs : List (List ℕ)) (f l : ℕ) : Type 0 where
  pub pointer : get_or bs 0 [] ≡ pointer_to f l
  pub vectors : get_or bs 1 [] ≡ formed (vectors_of img)
  pub ended : get_or bs 2 [] ≡ flag_block Finished

-- unfinished: block 3 points to it, some install took effect, and no confirmation counts for it yet
pub record Half (bs : List (List ℕ)) (f l n i : ℕ) : Type 0 where
  pub pointer : get_or bs 3 [] ≡ pointer_to f l
  pub unended : flag_in (get_or bs 2 []) ≡ Unfinished
  pub unconfirmed : n ≡ 0
  pub asked : 1 ≤ i

-- a board runs it, over a live store
pub record Duty (img : List ℕ) (bs : List (List ℕ)) (live : Bool) (f l : ℕ) (r : Running) : Type 0 where
  pub good : Good img bs f l
  pub awake : live ≡ true
  pub first_is : r.place.first ≡ f
  pub len_is : r.place.len ≡ l
  pub version_is : r.version ≡ version_of img

-- a matched board may install the image of the last match
pub record Ready (a : Meaning) (key : a.Key) (img : List ℕ) (m : Match) (bs : List (List ℕ)) (b : Matched) : Type 0 where
  pub lies : Lies (length bs) b.place.first b.place.len
  pub says : length_of (get_or bs b.place.first []) ≡ b.place.len
  pub image : image_at bs b.place.first b.place.len ≡ m.image
  pub version_is : b.version ≡ version_of m.image
  pub nonce_is : b.nonce ≡ nonce_of m.image
  pub vectors_are : bytes_of b.vectors ≡ vectors_of m.image
  pub newer : version_of img < version_of m.image
  pub right : m.token ≡ token_of a key m.image

-- what is known of a board by its state
abbrev pub OnBoard : (a : Meaning) → a.Key → List ℕ → Match → List (List ℕ) → Bool → ℕ → ℕ → Board → Type 0
OnBoard a key img m bs live f l cold = Unit {0}
OnBoard a key img m bs live f l (running r) = Duty img bs live f l r
OnBoard a key img m bs live f l (matched b) = Duty img bs live f l b.running × Ready a key img m bs b

-- img: the image of the last install that took effect, else the factory's; m: the last match; n: the confirmations that
-- count for that install; i: how many installs took effect
pub record Inv (a : Meaning) (key : a.Key) (img : List ℕ) (m : Match) (n i : ℕ) (board : Board) (bs : List (List ℕ)) (live : Bool) : Type 0 where
  pub first : ℕ
  pub len : ℕ
  pub base : Base img bs first len
  pub store : Good img bs first len ⊎ Half bs first len n i
  pub on_board : OnBoard a key img m bs live first len board
  pub once : n ≤ 1
  pub unasked : i ≡ 0 → n ≡ 0

-- the flag reads finished or not, never both
pub never_both : Finished ≡ Unfinished → ⊥
never_both e = let z : ◌≡◌ {A = ℕ} 0 1 = cc in omega arith

-- the flag block with 0 reads finished
pub reads_finished : (b : List ℕ) → b ≡ flag_block Finished → flag_in b ≡ Finished
reads_finished b e = ap flag_in e ∙ flag_reads_back Finished

-- and nothing else does
pub is_flag : (b : List ℕ) → flag_in b ≡ Finished → b ≡ flag_block Finished
is_flag b e =
    ⊎_elim (λ t. (bytes_eq-Decides b (flag_block Finished)).0 t)
    (λ f. absurd (never_both (sym e ∙ cond-false (bytes_eq b (flag_block Finished)) Finished Unfinished f)))
    (cases_Bool (bytes_eq b (flag_block Finished)))

-- so the flag block with 1 is another
pub flags_differ : flag_block Unfinished ≡ flag_block Finished → ⊥
flags_differ e = never_both (sym (flag_reads_back Finished) ∙ ap flag_in (sym e) ∙ flag_reads_back Unfinished)

-- a control block is none of the image's
pub control_outside : (count f l b : ℕ) → Lies count f l → b < 4 → Fills f l b → ⊥
control_outside count f l b h lt fills = omega arith

-- the image's length
pub base_length : (img : List ℕ) (bs : List (List ℕ)) (f l : ℕ) → Base img bs f l → length img ≡ l
base_length img bs f l b = sym (ap length b.image) ∙ image_length bs f l b.sized b.lies

-- the vectors of an image that lies in a store are 32 bytes
pub base_vectors : (img : List ℕ) (bs : List (List ℕ)) (f l : ℕ) → Base img bs f l → length (vectors_of img) ≡ 32
base_vectors img bs f l b = vectors_length img (omega (arith, base_length img bs f l b, b.lies))

-- their block has 512
pub formed_vectors : (img : List ℕ) (bs : List (List ℕ)) (f l : ℕ) → Base img bs f l → length (formed (vectors_of img)) ≡ 512
formed_vectors img bs f l b = length-formed (vectors_of img) (omega (arith, base_vectors img bs f l b))

-- a pointer block that holds the image's place is a legal one
pub legal : (img : List ℕ) (bs : List (List ℕ)) (f l p : ℕ) → Base img bs f l → get_or bs p [] ≡ pointer_to f l → Legal bs p f l
legal img bs f l p b e = ((e, b.lies), b.says)

-- one write outside the image
pub base_set : (img : List ℕ) (bs : List (List ℕ)) (f l b : ℕ) (x : List ℕ) →
    Base img bs f l → (Fills f l b → ⊥) → length x ≡ 512 → Base img (set bs b x) f l
base_set img bs f l b x h out long = record {
  sized = All-set (λ (c : List ℕ). length c ≡ 512) bs b x long h.sized;
  fit = rw length-set h.fit;
  lies = rw length-set h.lies;
  says = ap length_of (get_or-set_other bs b f x [] (λ e. out (omega arith, omega (arith, h.lies)))) ∙ h.says;
  image = image_set bs b f l x out ∙ h.image;
}

-- a write behind the flag keeps a finished store
pub good_set : (img : List ℕ) (bs : List (List ℕ)) (f l b : ℕ) (x : List ℕ) → 3 ≤ b → Good img bs f l → Good img (set bs b x) f l
good_set img bs f l b x h g = record {
  pointer = other bs b 0 x (pointer_to f l) (omega arith) g.pointer;
  vectors = other bs b 1 x (formed (vectors_of img)) (omega arith) g.vectors;
  ended = other bs b 2 x (flag_block Finished) (omega arith) g.ended;
}

-- a write ahead of the flag keeps an unfinished one
pub half_set : (bs : List (List ℕ)) (f l n i b : ℕ) (x : List ℕ) → b < 2 → Half bs f l n i → Half (set bs b x) f l n i
half_set bs f l n i b x lt h = record {
  pointer = other bs b 3 x (pointer_to f l) (omega arith) h.pointer;
  unended = ap flag_in (get_or-set_other bs b 2 x [] (omega arith)) ∙ h.unended;
  unconfirmed = h.unconfirmed;
  asked = h.asked;
}

-- the flag's block written so that it reads finished, with pointer and vectors in place
pub good_at : (img : List ℕ) (bs : List (List ℕ)) (f l : ℕ) (x : List ℕ) → 8 ≤ length bs →
    get_or bs 0 [] ≡ pointer_to f l → get_or bs 1 [] ≡ formed (vectors_of img) → x ≡ flag_block Finished → Good img (set bs 2 x) f l
good_at img bs f l x many p v e = record {
  pointer = other bs 2 0 x (pointer_to f l) (omega arith) p;
  vectors = other bs 2 1 x (formed (vectors_of img)) (omega arith) v;
  ended = get_or-set_same bs 2 x [] (omega arith) ∙ e;
}

-- the flag's block written so that it reads unfinished, with block 3 in place
pub half_at : (bs : List (List ℕ)) (f l n i : ℕ) (x : List ℕ) → 8 ≤ length bs →
    get_or bs 3 [] ≡ pointer_to f l → flag_in x ≡ Unfinished → n ≡ 0 → 1 ≤ i → Half (set bs 2 x) f l n i
half_at bs f l n i x many p e z s = record {
  pointer = other bs 2 3 x (pointer_to f l) (omega arith) p;
  unended = ap flag_in (get_or-set_same bs 2 x [] (omega arith)) ∙ e;
  unconfirmed = z;
  asked = s;
}

-- boards over a store of either kind
module _ (a : Meaning) (key : a.Key) (img : List ℕ) (m : Match) (n i : ℕ) (bs : List (List ℕ)) (live : Bool) (f l : ℕ) (b : Base img bs f l) where
  -- a cold board over a finished one
  pub cold_good : Good img bs f l → n ≤ 1 → (i ≡ 0 → n ≡ 0) → Inv a key img m n i cold bs live
  cold_good g once un = record { first = f; len = l; base = b; store = inl g; on_board = tt; once = once; unasked = un }

  -- a cold board over an unfinished one
  pub cold_half : Half bs f l n i → Inv a key img m n i cold bs live
  cold_half h = record {
    first = f;
    len = l;
    base = b;
    store = inr h;
    on_board = tt;
    once = omega (arith, h.unconfirmed);
    unasked = λ z. h.unconfirmed;
  }

  -- a running board over a finished one
  pub on_duty : (r : Running) → Duty img bs live f l r → n ≤ 1 → (i ≡ 0 → n ≡ 0) → Inv a key img m n i (running r) bs live
  on_duty r d once un = record { first = f; len = l; base = b; store = inl d.good; on_board = d; once = once; unasked = un }

-- whatever the board was, over the same blocks it may be cold
pub chill : (a : Meaning) (key : a.Key) (img : List ℕ) (m : Match) (n i : ℕ) (board : Board) (bs : List (List ℕ)) (live live' : Bool) →
    Inv a key img m n i board bs live → Inv a key img m n i cold bs live'
chill a key img m n i board bs live live' v =
    record { first = v.first; len = v.len; base = v.base; store = v.store; on_board = tt; once = v.once; unasked = v.unasked }
