-- Where a life ended with a running board, a newer image that finds blocks of its own can be installed: its pages are
-- staged, it is offered with its token, and installed.
use Rattle.std.proofs.Common.{◌≡◌, ℕ, ◌<◌, ◌≤◌, true, List, [], ◌∷◌, ◌++◌, length, replicate, sym, refl, ap, ◌∙◌, subst, ap₂, inr, arith}
use Rattle.std.specs.List.{AllByRecursion}
use Rattle.std.proofs.lemmas.List.{length-replicate}
use Rattle.std.proofs.ByRecursion.{All-drop}
use Rattle.authenticator.specs.Meaning.{Meaning}
use Rattle.layout.specs.Address.{blocks_of}
use Rattle.layout.specs.Image.{version_of, nonce_of, vectors_of}
use Rattle.layout.specs.Placing.{GoesPast, Lies, Share, Newer}
use Rattle.control.specs.declared.kind.Flag.TheVariants.{Unfinished}
use Rattle.planner.specs.Token.{token_of}
use Rattle.planner.specs.Confirmation.{confirmation_of}
use Rattle.store.specs.Medium.{Medium}
use Rattle.board.specs.declared.states.Running.{Running}
use Rattle.board.specs.declared.states.Matched.{Matched}
use Rattle.board.specs.declared.answers.Answer.{Answer}
use Rattle.board.specs.declared.answers.Answer.TheVariants as answer
use Rattle.board.specs.Answers.{swept, shown, settled}
use Rattle.board.specs.States.{running, matched, bytes_of, launch_of}
use Rattle.board.specs.Stored.{image_at, image_in, said_at, pages}
use Rattle.board.specs.Writes.{Put}
use Rattle.board.specs.Tests.{quiet}
use Rattle.board.specs.Calls.{installing, Takes}
use Rattle.law.specs.History.{offer, install, World, Event, leaves, Step, after, Life}
use Rattle.law.specs.Law.{Match, current, confirmations}
use Rattle.law.specs.GoesOn.{Updates}
use Rattle.law.proofs.Stored.{vectors_length, pointer_length, flag_length}
use Rattle.law.proofs.Traces.{Fitting, whole, whole-written}
use Rattle.law.proofs.Invariant.{Duty, OnBoard, Inv}
use Rattle.law.proofs.Pages.{puts_length, pages_sized, pages_length, paged, said_there, image_there}
use Rattle.law.proofs.Restarts.{place_at, closing_fits}
use Rattle.law.proofs.Staged.{Onward, staged}
use Rattle.law.proofs.Words.{words_of}

-- buffers of the right length
zeros : ℕ → List ℕ
zeros n = replicate n 0

-- they have it
zeros-length : (n : ℕ) → length (zeros n) ≡ n
unfolding zeros
zeros-length n = length-replicate {A = ℕ} n 0

-- the five writes of an install fit
installing_fits : (count f l : ℕ) (vs : List ℕ) → 8 ≤ count → length vs ≡ 32 → AllByRecursion (Fitting count) (installing f l vs)
installing_fits count f l vs many long =
    ((pointer_length f l, omega arith), ((flag_length Unfinished, omega arith), closing_fits count f l vs many long))

-- a board that runs r over the store s, where an image lies that is newer and apart
module _ (a : Meaning) (key : a.Key) (u : World a) (r : Running) (image : List ℕ) (first : ℕ)
    (on : u.board ≡ running r) (live : u.store.live ≡ true) (many : 8 ≤ length u.store.blocks)
    (said : said_at u.store.blocks first ≡ length image) (there : image_in u.store.blocks first ≡ image)
    (small : AllByRecursion (λ (b : ℕ). b < 256) image) (lies : Lies (length u.store.blocks) first (length image))
    (apart : Share first (length image) r.place.first r.place.len → ⊥) (newer : Newer (version_of image) r.version) where
  abbrev s : Medium
  s = u.store

  -- the vectors as words
  words : (ws : List ℕ) × (bytes_of ws ≡ vectors_of image)
  words = words_of 4 (vectors_of image) (vectors_length image lies.1) (All-drop (λ (b : ℕ). b < 256) _ image small)

  -- the board that an offer of the image makes
  abbrev b : Matched
  b = record { running = r; place = place_at (length s.blocks) first (length image) lies; version = version_of image; nonce = nonce_of image; vectors = words.0 }

  -- it is what the offer's meaning asks
  takes : Takes r s first b
  takes = record {
    running_is = refl;
    first_is = refl;
    len_is = sym said;
    version_is = ap version_of (sym there);
    nonce_is = ap nonce_of (sym there);
    vectors_are = words.1 ∙ ap vectors_of (sym there);
  }

  -- the offer, with its token
  abbrev offering : Event a
  offering = record {
    call = offer first (token_of a key (image_in s.blocks first)) (zeros 512);
    outcome = quiet answer.Matches (matched b) s;
    scratch = swept answer.Matches (zeros 512);
    register = [];
    state = settled (a.begin key) answer.Matches u.state;
  }

  -- it can be made
  offers : Step a key u offering
  offers = (
    (
      r,
      on,
      record {
        outcome = inr (
          zeros-length 512,
          inr (
            (lies.0, omega arith),
            inr (
              a.sized key _,
              inr (
                live,
                inr (
                  (subst (λ (l : ℕ). 46 ≤ l) (sym said) lies.1, subst (λ (l : ℕ). GoesPast (length s.blocks) first l → ⊥) (sym said) (λ past. omega arith)),
                  inr (
                    subst (λ (l : ℕ). Share first l r.place.first r.place.len → ⊥) (sym said) apart,
                    inr (subst (λ (x : List ℕ). Newer (version_of x) r.version) (sym there) newer, inr (refl, (b, takes, refl))),
                  ),
                ),
              ),
            ),
          ),
        );
        scratch_left = refl;
        state_left = refl;
      },
    ),
    refl,
  )

  -- the writes of the install
  abbrev plan : List Put
  plan = installing first (length image) (bytes_of words.0)

  -- what then runs
  abbrev next : Running
  next = record { place = b.place; version = b.version }

  -- what is answered
  abbrev said_then : Answer
  said_then = answer.Confirmed (launch_of b.place)

  -- the install
  abbrev installing_event : Event a
  installing_event = record {
    call = install (zeros 512) (zeros 32);
    outcome = whole s plan said_then (running next);
    scratch = swept said_then (zeros 512);
    register = shown (confirmation_of a key b.version b.nonce) said_then (zeros 32);
    state = settled (a.begin key) said_then offering.state;
  }

  -- it can be made
  installs : Step a key (leaves offering) installing_event
  installs = (
    b,
    refl,
    record {
      outcome = inr (
        (zeros-length 512, zeros-length 32),
        whole-written s plan said_then (running next) live
            (installing_fits (length s.blocks) first (length image) (bytes_of words.0) many (ap length words.1 ∙ vectors_length image lies.1)),
      );
      scratch_left = refl;
      register_left = refl;
      state_left = refl;
    },
  )

  -- a life that came so far goes on with the two
  installed_then : (factory : List ℕ) (w : World a) (k added h : List (Event a)) → after w k ≡ u → k ≡ added ++ h → Life a key w k →
      (t : List (Event a)) × Life a key w (t ++ h) × (current factory (t ++ h) ≡ image) × (confirmations (t ++ h) ≡ 1)
      × ((x : Running) × ((after w (t ++ h)).board ≡ running x))
  installed_then factory w k added h here is life = (
    installing_event ∷ (offering ∷ added),
    subst (λ (l : List (Event a)). (Life a key w l × Step a key (after w l) offering) × Step a key (leaves offering) installing_event) is
        ((life, subst (λ (x : World a). Step a key x offering) (sym here) offers), installs),
    there,
    refl,
    (next, refl),
  )

-- every such image can be installed
pub updates : (a : Meaning) (key : a.Key) (factory : List ℕ) (w : World a) (h : List (Event a)) (img : List ℕ) (m : Match) (n i : ℕ) →
    Inv a key img m n i (after w h).board (after w h).store.blocks (after w h).store.live → Life a key w h → Updates a key factory w h
updates a key factory w h img m n i v t r on image first small is lies apart newer =
    installed_then a key (after w y.history) r image first y.board_is y.live (omega (arith, v.base.fit.0, count)) said there small
    (subst (λ (c : ℕ). Lies c first (length image)) (sym count) lies) apart newer factory w y.history y.added h refl y.is y.life
  where
    bs : List (List ℕ)
    bs = (after w h).store.blocks

    blocks : ℕ
    blocks = blocks_of (length image)

    duty : Duty img bs (after w h).store.live v.first v.len r
    duty = subst (OnBoard a key img m bs (after w h).store.live v.first v.len) on v.on_board

    y : Onward a key w h r (paged first image bs)
    y = staged a key w r (pages blocks image) first h t on duty.awake (pages_sized blocks image) lies.0
        (omega (arith, pages_length blocks image, lies.2))
        (λ c ge lt fills. apart (c, (ge, omega (arith, pages_length blocks image)), fills))

    count : length (after w y.history).store.blocks ≡ length bs
    count = ap length y.blocks_are ∙ puts_length first (pages blocks image) bs

    said : said_at (after w y.history).store.blocks first ≡ length image
    said = ap (λ (x : List (List ℕ)). said_at x first) y.blocks_are ∙ said_there image bs first is (omega (arith, lies.2))

    there : image_in (after w y.history).store.blocks first ≡ image
    there =
        ap₂ (λ (x : List (List ℕ)) (l : ℕ). image_at x first l) y.blocks_are said
        ∙ image_there image bs first (omega (arith, lies.2))
