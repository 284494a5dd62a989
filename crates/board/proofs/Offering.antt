-- An image that is offered: its tests, what is kept of it, and the call.
use Rattle.std.proofs.Common.{◌≡◌, ℕ, ◌+◌, ◌*◌, ◌≤◌, true, List, [], length, Ok, Err, sym, refl, ap, ◌∙◌, subst, ap₂, inl, inr, arith}
use Rattle.refusal.specs.declared.Refusal.{Refusal}
use Rattle.refusal.specs.declared.Refusal.TheVariants.{BadImage, NotNewer, WrongToken, RunningBlock}
use Rattle.authenticator.specs.Meaning.{Meaning}
use Rattle.layout.specs.declared.header.Header.{Header}
use Rattle.layout.specs.declared.place.Place.{Place}
use Rattle.layout.specs.Header.{header_of}
use Rattle.layout.specs.Image.{version_of, vectors_of}
use Rattle.layout.specs.Placing.{GoesPast, Lies, Newer, Open}
use Rattle.planner.specs.Token.{token_of}
use Rattle.store.specs.Medium.{Medium, Whole, held}
use Rattle.board.specs.declared.answers.Answer.TheVariants as answer
use Rattle.board.specs.declared.results.Denied.TheVariants as denied
use Rattle.board.specs.declared.states.Matched.{Matched}
use Rattle.board.specs.declared.states.Running.{Running}
use Rattle.board.specs.Answers.{cleared, settled}
use Rattle.board.specs.Calls.{Offers, Takes, IsScratch, count_of}
use Rattle.board.specs.Results.{offered}
use Rattle.board.specs.States.{bytes_of}
use Rattle.board.specs.Stored.{image_at, image_in, said_at}
use Rattle.board.specs.Weighed.{Fails, Holds, Found, admitting, weighing}
use Rattle.board.proofs.Images.{image_nonce, image_version}

-- an image that lies in a store, in bytes
inside : (count first len : ℕ) → Open count first → (GoesPast count first len → ⊥) → 512 * first + len ≤ 512 * count
inside count first len op within = omega (arith, op.0, op.1, within)

module _ (a : Meaning) (key : a.Key) (r : Running) (m : Medium) (first : ℕ) (token : List ℕ) (w : Whole m.blocks) (op : Open (count_of m) first) where
  -- the header's version is the image's
  newer : (46 ≤ said_at m.blocks first) × (GoesPast (count_of m) first (said_at m.blocks first) → ⊥)
      → version_of (image_in m.blocks first) ≡ version_of (held m first)
  newer fits = image_version m.blocks w first (said_at m.blocks first) (inside (count_of m) first _ op fits.1) fits.0

  -- a header that is refused
  fails : (q : Refusal) → Fails (admitting r (count_of m) first (header_of (held m first))) q → Fails (weighing a key r m first token) q
  fails q (inl x) = inl x
  fails q (inr (fits, inl x)) = inr (fits, inl x)
  fails q (inr (fits, inr (apart, inl (old, e)))) =
      inr (fits, inr (apart, inl ((λ new. old (subst (λ (v : ℕ). Newer v r.version) (newer fits) new)), e)))
  fails q (inr (fits, inr (apart, inr (new, none)))) = absurd none

  module _ (h : Header) (count : ℕ) (is : h ≡ header_of (held m first)) (counted : count ≡ count_of m) where
    pub barred : (q : Refusal) → Fails (admitting r count first h) q → Fails (weighing a key r m first token) q
    barred q f =
        fails q (subst (λ (k : Header). Fails (admitting r (count_of m) first k) q) is (subst (λ (n : ℕ). Fails (admitting r n first h) q) counted f))

    -- then no tag was made
    pub untried : (begin state : a.State) (q : Refusal) → Fails (admitting r count first h) q → state ≡ settled begin (answer.Refused q) state
    untried begin state q f = sym (kept f)
      where
        by : (p : Refusal) → q ≡ p → settled begin (answer.Refused q) state ≡ settled begin (answer.Refused p) state
        by p e = ap (λ (z : Refusal). settled begin (answer.Refused z) state) e

        kept : Fails (admitting r count first h) q → settled begin (answer.Refused q) state ≡ state
        kept (inl x) = by BadImage x.1
        kept (inr (fits, inl x)) = by RunningBlock x.1
        kept (inr (fits, inr (apart, inl x))) = by NotNewer x.1
        kept (inr (fits, inr (apart, inr (new, none)))) = absurd none

    module _ (p : Place) (placed : Found (admitting r count first h) first h.len (Ok p)) where
      holds : Holds (admitting r (count_of m) first (header_of (held m first)))
      holds = subst (λ (k : Header). Holds (admitting r (count_of m) first k)) is (subst (λ (n : ℕ). Holds (admitting r n first h)) counted placed.0)

      same : token_of a key (image_at m.blocks p.first p.len) ≡ token_of a key (image_in m.blocks first)
      same = ap (token_of a key) (ap₂ (image_at m.blocks) placed.1 (placed.2 ∙ ap (λ (k : Header). k.len) is))

      new : Newer (version_of (image_in m.blocks first)) r.version
      new = subst (λ (v : ℕ). Newer v r.version) (sym (newer holds.0)) holds.1.1.0

      -- the token is the image's
      pub accepted : token ≡ token_of a key (image_at m.blocks p.first p.len)
          → Found (weighing a key r m first token) first h.len (Ok p)
      accepted e = ((holds.0, (holds.1.0, (new, (e ∙ same, tt)))), placed.1, placed.2)

      -- it is not
      pub rejected : (token ≡ token_of a key (image_at m.blocks p.first p.len) → ⊥) → Fails (weighing a key r m first token) WrongToken
      rejected wrong = inr (holds.0, inr (holds.1.0, inr (new, inl ((λ e. wrong (e ∙ sym same)), refl))))

-- an image kept for an install
pub taken : (r : Running) (m : Medium) (p : Place) (h : Header) (vs : List ℕ) → Whole m.blocks → Lies (count_of m) p.first p.len
    → h ≡ header_of (held m p.first) → p.len ≡ h.len → bytes_of vs ≡ vectors_of (image_at m.blocks p.first p.len)
    → Takes r m p.first (record { running = r; place = p; version = h.version; nonce = h.nonce; vectors = vs })
taken r m p h vs w lies is long read =
    let f : ℕ = p.first in
    let l : ℕ = said_at m.blocks f in
    let len : p.len ≡ l = long ∙ ap (λ (k : Header). k.len) is in
    let fits : 512 * f + l ≤ 512 * count_of m = omega (arith, lies.2, len) in
    let least : 46 ≤ l = omega (arith, lies.1, len) in
    record {
      running_is = refl;
      first_is = refl;
      len_is = len;
      version_is = ap (λ (k : Header). k.version) is ∙ sym (image_version m.blocks w f l fits least);
      nonce_is = ap (λ (k : Header). k.nonce) is ∙ sym (image_nonce m.blocks w f l fits least);
      vectors_are = read ∙ ap (λ (n : ℕ). vectors_of (image_at m.blocks f n)) len;
    }

-- an offer that reads its image
module _ (a : Meaning) (key : a.Key) (r : Running) (m : Medium) (first count : ℕ) (token scratch : List ℕ) (state state' : a.State)
    (right : IsScratch scratch) (counted : count ≡ count_of m) (op : Open count first) (long : length token ≡ a.size) (live : m.live ≡ true) where
  abbrev Denies : Refusal → Type 0
  Denies q = Offers a key r m first token scratch state (offered [] (Err (denied.Refused r q)) m) (cleared scratch) state'

  abbrev Kept : Refusal → Type 0
  Kept q = state' ≡ settled (a.begin key) (answer.Refused q) state

  open_there : Open (count_of m) first
  open_there = subst (λ (n : ℕ). Open n first) counted op

  -- it matches
  pub offer_matches : (p : Place) (len : ℕ) (b : Matched) → Found (weighing a key r m first token) first len (Ok p) → Takes r m p.first b → state' ≡ a.begin key
      → Offers a key r m first token scratch state (offered [] (Ok b) m) (cleared scratch) state'
  offer_matches p len b placed takes begun =
      let h : Holds (weighing a key r m first token) = placed.0 in
      let kept : Takes r m first b = subst (λ (n : ℕ). Takes r m n b) placed.1 takes in
      record {
        outcome = inr (right, inr (open_there, inr (long, inr (live, inr (h.0, inr (h.1.0, inr (h.1.1.0, inr (h.1.1.1.0, (b, kept, refl)))))))));
        scratch_left = refl;
        state_left = begun;
      }

  -- its image or its token is refused
  pub offer_fails : (q : Refusal) → Fails (weighing a key r m first token) q → Kept q → Denies q
  offer_fails q (inl x) k =
      subst Denies (sym x.1)
      (record { outcome = inr (right, inr (open_there, inr (long, inr (live, inl (x.0, refl))))); scratch_left = refl; state_left = subst Kept x.1 k })
  offer_fails q (inr (fits, inl x)) k =
      subst Denies (sym x.1)
      (record { outcome = inr (right, inr (open_there, inr (long, inr (live, inr (fits, inl (x.0, refl)))))); scratch_left = refl; state_left = subst Kept x.1 k })
  offer_fails q (inr (fits, inr (apart, inl x))) k =
      subst Denies (sym x.1)
      (record { outcome = inr (right, inr (open_there, inr (long, inr (live, inr (fits, inr (apart, inl (x.0, refl))))))); scratch_left = refl; state_left = subst Kept x.1 k })
  offer_fails q (inr (fits, inr (apart, inr (newer_than, inl x)))) k =
      subst Denies (sym x.1)
      (record { outcome = inr (right, inr (open_there, inr (long, inr (live, inr (fits, inr (apart, inr (newer_than, inl (x.0, refl)))))))); scratch_left = refl; state_left = subst Kept x.1 k })
  offer_fails q (inr (fits, inr (apart, inr (_, inr (_, none))))) k = absurd none
