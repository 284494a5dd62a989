-- What each call means. A call reads top to bottom as its rule does: the tests in their order, what it reads, the writes
-- that it makes, and what it answers.
use Rattle.std.specs.Prelude.{◌≡◌, ℕ, suc, ◌-◌, ◌/◌, ◌%◌, ◌≤◌, cond, ◌&&◌, ◌⊎◌, List, [], ◌∷◌, ◌++◌, length, set, Option, None, Some, nat_le, nat_lt, slice_index_or, slice_set}
use Rattle.refusal.specs.declared.Refusal.TheVariants.{StoreSize, WrongLength, BadImage, NotNewer, TagLength, WrongToken, BlockRange, RunningBlock, CorePc}
use Rattle.authenticator.specs.Meaning.{Meaning}
use Rattle.layout.specs.Address.{InTcr, blocks_of}
use Rattle.layout.specs.Image.{IsImage, version_of, nonce_of, vectors_of}
use Rattle.layout.specs.Placing.{Open, GoesPast, Fills, Share, Newer}
use Rattle.control.specs.Blocks.{formed, pointer_to, flag_block, flag_in, Stands, Legal}
use Rattle.control.specs.declared.kind.Control.TheVariants as control
use Rattle.control.specs.declared.kind.Flag.{Flag}
use Rattle.control.specs.declared.kind.Flag.TheVariants.{Finished, Unfinished}
use Rattle.watch.specs.declared.cycle.Cycle.{Cycle}
use Rattle.watch.specs.Rules.{W1, W2}
use Rattle.store.specs.Medium.{Medium, held, woken}
use Rattle.planner.specs.Token.{token_of}
use Rattle.planner.specs.Confirmation.{confirmation_of}
use Rattle.board.specs.declared.states.Running.{Running}
use Rattle.board.specs.declared.states.Matched.{Matched}
use Rattle.board.specs.States.{Board, cold, running, matched, bytes_of, launch_of}
use Rattle.board.specs.declared.answers.Answer.TheVariants as answer
use Rattle.board.specs.Answers.{swept, shown, settled}
use Rattle.board.specs.Stored.{image_at, said_at, image_in, pages}
use Rattle.board.specs.Writes.{Put, put}
use Rattle.board.specs.Tests.{Outcome, quiet, pass, test, Tested, Read, Written}

abbrev pub count_of : Medium → ℕ
count_of m = length m.blocks

-- The scratch buffer, the register, and a store have the right size.
abbrev pub IsScratch : List ℕ → Type 0
IsScratch scratch = length scratch ≡ 512

abbrev pub IsRegister : List ℕ → Type 0
IsRegister register = length register ≡ 32

abbrev pub IsStore : Medium → Type 0
IsStore m = (8 ≤ count_of m) × (count_of m ≤ 112)

-- Load

-- Writes of whole blocks, from block b on.
abbrev pub puts : ℕ → List (List ℕ) → List Put
puts b [] = []
puts b (x ∷ xs) = put b x ∷ puts (suc b) xs

-- The writes of a load: the image from block 4 on, then vectors, flag and pointer.
abbrev pub loading : List ℕ → List Put
loading image =
    puts 4 (pages (blocks_of (length image)) image)
    ++ (put 1 (formed (vectors_of image)) ∷ put 2 (flag_block Finished) ∷ put 0 (pointer_to 4 (length image)) ∷ [])

pub record Loads (m : Medium) (image scratch : List ℕ) (o : Outcome) (scratch' : List ℕ) : Type 0 where
  pub outcome :
      Tested
      (test (IsScratch scratch) WrongLength
      (test (IsStore m) StoreSize
      (test (IsImage image × (GoesPast (count_of m) 4 (length image) → ⊥)) BadImage pass)))
      cold m
      (Written (woken m) (loading image) answer.Done cold)
      o
  pub scratch_left : scratch' ≡ swept o.answer scratch

-- Start and install

-- The writes that end an install, and those of a whole one.
abbrev pub closing : ℕ → ℕ → List ℕ → List Put
closing first len vectors =
    put 0 (pointer_to first len) ∷ put 1 (formed vectors) ∷ put 2 (flag_block Finished) ∷ []

abbrev pub installing : ℕ → ℕ → List ℕ → List Put
installing first len vectors =
    put 3 (pointer_to first len) ∷ put 2 (flag_block Unfinished) ∷ closing first len vectors

-- Block p is a legal pointer to an image of L bytes from a first block on.
abbrev pub LegalAt : Medium → ℕ → Type 0
LegalAt m p = (first len : ℕ) × Legal m.blocks p first len

-- This is the running state of the image that block p is a legal pointer to.
abbrev pub bytes_at : Medium → Running → List ℕ
bytes_at m r = image_at m.blocks r.place.first r.place.len

abbrev pub RunsBy : Medium → ℕ → Running → Type 0
RunsBy m p r = Legal m.blocks p r.place.first r.place.len × (r.version ≡ version_of (bytes_at m r))

-- What start does with a store that it woke, by the flag: it runs what block 0 points to, or ends an install of what
-- block 3 points to.
abbrev pub Resumes : Flag → Medium → Outcome → Type 0
Resumes Finished m o =
    ((LegalAt m 0 → ⊥) × (o ≡ quiet (answer.NotLoaded 0) cold m))
    ⊎ (LegalAt m 0 × (Stands control.Vectors (held m 1) → ⊥) × (o ≡ quiet (answer.NotLoaded 1) cold m))
    ⊎ (Stands control.Vectors (held m 1)
    × ((r : Running) × RunsBy m 0 r × (o ≡ quiet (answer.Runs (launch_of r.place)) (running r) m)))
Resumes Unfinished m o =
    ((LegalAt m 3 → ⊥) × (o ≡ quiet (answer.NotLoaded 3) cold m))
    ⊎ ((r : Running) × RunsBy m 3 r
    × Written m (closing r.place.first r.place.len (vectors_of (bytes_at m r))) (answer.Confirmed (launch_of r.place)) (running r) o)

-- The confirmation of the image that a board runs: none on another board.
abbrev pub confirmation_by : (a : Meaning) → a.Key → Medium → Board → List ℕ
confirmation_by a key m cold = []
confirmation_by a key m (running r) = confirmation_of a key r.version (nonce_of (bytes_at m r))
confirmation_by a key m (matched b) = []

pub record Starts (a : Meaning) (key : a.Key) (m : Medium) (scratch register : List ℕ) (state : a.State)
    (o : Outcome) (scratch' register' : List ℕ) (state' : a.State) : Type 0 where
  pub outcome :
      Tested
      (test (IsScratch scratch × IsRegister register) WrongLength
      (test (IsStore m) StoreSize pass))
      cold m
      (Resumes (flag_in (held m 2)) (woken m))
      o
  pub scratch_left : scratch' ≡ swept o.answer scratch
  pub register_left : register' ≡ shown (confirmation_by a key m o.board) o.answer register
  pub state_left : state' ≡ settled (a.begin key) o.answer state

pub record Installs (a : Meaning) (key : a.Key) (b : Matched) (m : Medium) (scratch register : List ℕ) (state : a.State)
    (o : Outcome) (scratch' register' : List ℕ) (state' : a.State) : Type 0 where
  pub outcome :
      Tested
      (test (IsScratch scratch × IsRegister register) WrongLength pass)
      (matched b) m
      (Written m (installing b.place.first b.place.len (bytes_of b.vectors)) (answer.Confirmed (launch_of b.place))
      (running (record { place = b.place; version = b.version })))
      o
  pub scratch_left : scratch' ≡ swept o.answer scratch
  pub register_left : register' ≡ shown (confirmation_of a key b.version b.nonce) o.answer register
  pub state_left : state' ≡ settled (a.begin key) o.answer state

-- Stage

abbrev pub Stages : Running → Medium → ℕ → List ℕ → Outcome → Type 0
Stages r m b bytes o =
    Tested
    (test (length bytes ≡ 512) WrongLength
    (test (Open (count_of m) b) BlockRange
    (test (Fills r.place.first r.place.len b → ⊥) RunningBlock pass)))
    (running r) m
    (Written m (put b bytes ∷ []) answer.Done (running r))
    o

-- Cycle

-- A byte that a cycle writes to an address.
pub record Poke : Type 0 where
  pub address : ℕ
  pub byte : ℕ

abbrev pub poke_if : Option ℕ → ℕ → List Poke → List Poke
poke_if None byte pokes = pokes
poke_if (Some address) byte pokes = record { address = address; byte = byte } ∷ pokes

-- The core's byte, then the one of DMA.
abbrev pub pokes_of : Cycle → ℕ → ℕ → List Poke
pokes_of c byte dma_byte = poke_if c.write_at byte (poke_if c.dma_at dma_byte [])

-- The writes by which bytes come into their blocks, each over what those ahead of it left. An address outside the
-- blocks changes nothing.
unfoldable pub poking : List (List ℕ) → List Poke → List Put
poking blocks [] = []
poking blocks (p ∷ ps) =
    let b = (p.address - 8192) / 512 in
    let x = set (slice_index_or blocks b []) ((p.address - 8192) % 512) p.byte in
    cond (nat_le 8192 p.address && nat_lt b (length blocks)) (put b x ∷ poking (slice_set blocks b x) ps) (poking blocks ps)

-- A cycle that passes reads each block ahead of its write.
abbrev pub Pokes : Medium → List Put → Board → Outcome → Type 0
Pokes m [] board o = o ≡ quiet answer.Passes board m
Pokes m (p ∷ plan) board o = Read m p.block (Written m (p ∷ plan) answer.Passes board) o

pub record Cycles (r : Running) (m : Medium) (c : Cycle) (byte dma_byte : ℕ) (scratch : List ℕ) (o : Outcome) (scratch' : List ℕ) : Type 0 where
  pub outcome :
      Tested
      (test (IsScratch scratch) WrongLength
      (test (InTcr c.pc → ⊥) CorePc pass))
      (running r) m
      (λ o. ((W1 (Some r.place) c ⊎ W2 (Some r.place) c) × (o ≡ quiet answer.Resets cold m))
      ⊎ ((W1 (Some r.place) c → ⊥) × (W2 (Some r.place) c → ⊥)
      × Pokes m (poking m.blocks (pokes_of c byte dma_byte)) (running r) o))
      o
  pub scratch_left : scratch' ≡ swept o.answer scratch

-- Offer

-- A board is matched: with what it runs, and the image that lies at block `first`.
pub record Takes (r : Running) (m : Medium) (first : ℕ) (b : Matched) : Type 0 where
  pub running_is : b.running ≡ r
  pub first_is : b.place.first ≡ first
  pub len_is : b.place.len ≡ said_at m.blocks first
  pub version_is : b.version ≡ version_of (image_in m.blocks first)
  pub nonce_is : b.nonce ≡ nonce_of (image_in m.blocks first)
  pub vectors_are : bytes_of b.vectors ≡ vectors_of (image_in m.blocks first)

pub record Offers (a : Meaning) (key : a.Key) (r : Running) (m : Medium) (first : ℕ) (token scratch : List ℕ) (state : a.State)
    (o : Outcome) (scratch' : List ℕ) (state' : a.State) : Type 0 where
  pub outcome :
      Tested
      (test (IsScratch scratch) WrongLength
      (test (Open (count_of m) first) BlockRange
      (test (length token ≡ a.size) TagLength pass)))
      (running r) m
      (Read m first
      (Tested
      (test ((46 ≤ said_at m.blocks first) × (GoesPast (count_of m) first (said_at m.blocks first) → ⊥)) BadImage
      (test (Share first (said_at m.blocks first) r.place.first r.place.len → ⊥) RunningBlock
      (test (Newer (version_of (image_in m.blocks first)) r.version) NotNewer
      (test (token ≡ token_of a key (image_in m.blocks first)) WrongToken pass))))
      (running r) m
      (λ o. (b : Matched) × Takes r m first b × (o ≡ quiet answer.Matches (matched b) m))))
      o
  pub scratch_left : scratch' ≡ swept o.answer scratch
  pub state_left : state' ≡ settled (a.begin key) o.answer state

-- Leave and reset

abbrev pub Leaves : Matched → Running → Type 0
Leaves b r = r ≡ b.running
