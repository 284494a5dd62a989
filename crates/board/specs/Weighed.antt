-- The tests of an image that is offered, as code makes them: they give its place, or a refusal.
use Rattle.std.specs.Prelude.{◌≡◌, ℕ, ◌≤◌, ◌⊎◌, List, length, Ok, Err, Result}
use Rattle.refusal.specs.declared.Refusal.{Refusal}
use Rattle.refusal.specs.declared.Refusal.TheVariants.{BadImage, NotNewer, WrongToken, RunningBlock}
use Rattle.authenticator.specs.Meaning.{Meaning}
use Rattle.layout.specs.declared.header.Header.{Header}
use Rattle.layout.specs.declared.place.Place.{Place}
use Rattle.layout.specs.Image.{version_of}
use Rattle.layout.specs.Placing.{GoesPast, Share, Newer}
use Rattle.store.specs.Medium.{Medium}
use Rattle.planner.specs.Token.{token_of}
use Rattle.board.specs.declared.answers.Answer.TheVariants as answer
use Rattle.board.specs.declared.states.Running.{Running}
use Rattle.board.specs.Answers.{settled}
use Rattle.board.specs.Stored.{said_at, image_in}
use Rattle.board.specs.Tests.{Tests, pass, test}

-- The first test that fails gives the refusal; or none fails.
abbrev pub Fails : Tests → Refusal → Type 0
Fails pass refusal = ⊥
Fails (test P q tests) refusal = ((P → ⊥) × (refusal ≡ q)) ⊎ (P × Fails tests refusal)

abbrev pub Holds : Tests → Type 0
Holds pass = Unit {0}
Holds (test P q tests) = P × Holds tests

-- The place of len bytes from block `first` on, where no test fails.
abbrev pub Found : Tests → ℕ → ℕ → Result Place Refusal → Type 0
Found tests first len (Ok p) = Holds tests × (p.first ≡ first) × (p.len ≡ len)
Found tests first len (Err refusal) = Fails tests refusal

-- The tests of a header at block `first` of a store of `count` blocks.
abbrev pub admitting : Running → ℕ → ℕ → Header → Tests
admitting r count first h =
    test ((46 ≤ h.len) × (GoesPast count first h.len → ⊥)) BadImage
    (test (Share first h.len r.place.first r.place.len → ⊥) RunningBlock
    (test (Newer h.version r.version) NotNewer pass))

-- The tests of an image and its token.
abbrev pub weighing : (a : Meaning) → a.Key → Running → Medium → ℕ → List ℕ → Tests
weighing a key r m first token =
    test ((46 ≤ said_at m.blocks first) × (GoesPast (length m.blocks) first (said_at m.blocks first) → ⊥)) BadImage
    (test (Share first (said_at m.blocks first) r.place.first r.place.len → ⊥) RunningBlock
    (test (Newer (version_of (image_in m.blocks first)) r.version) NotNewer
    (test (token ≡ token_of a key (image_in m.blocks first)) WrongToken pass)))

-- The authenticator's state after them.
abbrev pub tried : {State Found : Type 0} → State → Result Found Refusal → State → State
tried begin (Ok _) state = begin
tried begin (Err refusal) state = settled begin (answer.Refused refusal) state
