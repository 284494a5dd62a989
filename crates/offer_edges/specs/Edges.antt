-- The edges of the rules of an offer, on one board: an image of 46 bytes and version 7 runs from block 4 on, in a store of 8 blocks.
use Rattle.std.specs.Prelude.{◌≡◌, ℕ, true, ◌⊎◌, List, length}
use Rattle.std.proofs.Common.{lit≤}
use Rattle.refusal.specs.declared.Refusal.{Refusal}
use Rattle.refusal.specs.declared.Refusal.TheVariants as refusal
use Rattle.authenticator.specs.Meaning.{Meaning}
use Rattle.layout.specs.declared.place.Place.{Place}
use Rattle.layout.specs.Image.{version_of}
use Rattle.store.specs.Medium.{Medium}
use Rattle.board.specs.declared.answers.Answer.{Answer}
use Rattle.board.specs.declared.answers.Answer.TheVariants as answer
use Rattle.board.specs.declared.states.Running.{Running}
use Rattle.board.specs.States as states
use Rattle.board.specs.Stored.{said_at, image_in}
use Rattle.board.specs.Tests.{Outcome, quiet}
use Rattle.board.specs.Calls.{count_of, IsScratch, Offers}

abbrev pub place : Place
place = record { first = 4; len = 46; lies = (lit≤ tt, lit≤ tt, lit≤ tt) }

-- The running state; and one where the same image runs from block 6 on.
abbrev pub board : Running
board = record { place = place; version = 7 }

abbrev pub higher : Running
higher = record { place = record { first = 6; len = 46; lies = (lit≤ tt, lit≤ tt, lit≤ tt) }; version = 7 }

-- An offer of what lies at block `first` in a live store of 8 blocks, with a scratch buffer of 512 bytes and a token of the
-- length of a tag.
pub record Offering (a : Meaning) (first : ℕ) : Type 0 where
  pub store : Medium
  pub token : List ℕ
  pub scratch : List ℕ
  pub state : a.State
  pub eight : count_of store ≡ 8
  pub live : store.live ≡ true
  pub right_scratch : IsScratch scratch
  pub right_token : length token ≡ a.size

abbrev pub said : {a : Meaning} {first : ℕ} → Offering a first → ℕ
said {first = first} x = said_at x.store.blocks first

abbrev pub version : {a : Meaning} {first : ℕ} → Offering a first → ℕ
version {first = first} x = version_of (image_in x.store.blocks first)

-- It is answered so, whatever else it is.
abbrev pub Answered : (a : Meaning) → a.Key → Running → (first : ℕ) → Offering a first → (Answer → Type 0) → Type 0
Answered a key r first x Said =
    (o : Outcome) (scratch : List ℕ) (state : a.State) →
    Offers a key r x.store first x.token x.scratch x.state o scratch state → Said o.answer

-- It is refused so: that is an answer, and there is no other.
abbrev pub Refused : (a : Meaning) → a.Key → Running → (first : ℕ) → Offering a first → Refusal → Type 0
Refused a key r first x n =
    ((scratch : List ℕ) × (state : a.State)
    × Offers a key r x.store first x.token x.scratch x.state (quiet (answer.Refused n) (states.running r) x.store) scratch state)
    × Answered a key r first x (λ y. y ≡ answer.Refused n)

-- It goes on past the test of its version, to that of the token; past the test of its blocks; past that of its length.
abbrev pub PastVersion : Answer → Type 0
PastVersion y = (y ≡ answer.Refused refusal.WrongToken) ⊎ (y ≡ answer.Matches)

abbrev pub PastBlocks : Answer → Type 0
PastBlocks y = (y ≡ answer.Refused refusal.NotNewer) ⊎ PastVersion y

abbrev pub PastLength : Answer → Type 0
PastLength y = (y ≡ answer.Refused refusal.RunningBlock) ⊎ PastBlocks y

pub record OfferEdges (a : Meaning) (key : a.Key) : Type 0 where
  -- Blocks 4 to 7 may be offered, and no other.
  pub control_block : (x : Offering a 3) → Refused a key board 3 x refusal.BlockRange
  pub no_block : (x : Offering a 8) → Refused a key board 8 x refusal.BlockRange
  -- In the last block there is room for 512 bytes.
  pub past_end : (x : Offering a 7) → said x ≡ 513 → Refused a key board 7 x refusal.BadImage
  pub at_end : (x : Offering a 7) → said x ≡ 512 → Answered a key board 7 x PastLength
  pub too_short : (x : Offering a 7) → said x ≡ 45 → Refused a key board 7 x refusal.BadImage
  pub long_enough : (x : Offering a 7) → said x ≡ 46 → Answered a key board 7 x PastLength
  pub same_version : (x : Offering a 7) → said x ≡ 46 → version x ≡ 7 → Refused a key board 7 x refusal.NotNewer
  pub next_version : (x : Offering a 7) → said x ≡ 46 → version x ≡ 8 → Answered a key board 7 x PastVersion
  -- An image at block 4 reaches one that runs at block 6 with its third block.
  pub shared : (x : Offering a 4) → said x ≡ 1025 → Refused a key higher 4 x refusal.RunningBlock
  pub unshared : (x : Offering a 4) → said x ≡ 1024 → Answered a key higher 4 x PastBlocks
