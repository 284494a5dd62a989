-- The law is not empty: a life can go on, with its supply kept.
use Rattle.std.specs.Prelude.{◌≡◌, ℕ, ◌<◌, List, ◌++◌, length}
use Rattle.std.specs.List.{AllByRecursion}
use Rattle.authenticator.specs.Meaning.{Meaning}
use Rattle.layout.specs.Image.{IsImage, version_of}
use Rattle.layout.specs.Placing.{Lies, Share, Newer}
use Rattle.board.specs.declared.states.Running.{Running}
use Rattle.board.specs.States.{cold, running}
use Rattle.board.specs.Calls.{IsScratch, IsRegister, count_of}
use Rattle.law.specs.History.{start, World, Event, Step, after, Life, Loaded}
use Rattle.law.specs.Law.{current, confirmations}

-- Where a life ended with a cold board, a start with right buffers can follow, and runs.
abbrev pub Restarts : (a : Meaning) → a.Key → World a → Type 0
Restarts a key w =
    w.board ≡ cold → (scratch register : List ℕ) → IsScratch scratch → IsRegister register →
    (e : Event a) × (e.call ≡ start scratch register) × Step a key w e
    × ((r : Running) × (e.outcome.board ≡ running r))

-- Where it ended with a running board, every image that is newer and finds blocks of its own can be installed: calls can
-- follow after which it is the current one, runs, and is confirmed.
abbrev pub Updates : (a : Meaning) → a.Key → List ℕ → World a → List (Event a) → Type 0
Updates a key factory w h =
    (r : Running) → (after w h).board ≡ running r →
    (image : List ℕ) (first : ℕ) → AllByRecursion (λ (b : ℕ). b < 256) image → IsImage image →
    Lies (count_of (after w h).store) first (length image) →
    (Share first (length image) r.place.first r.place.len → ⊥) → Newer (version_of image) r.version →
    (t : List (Event a)) × Life a key w (t ++ h) × (current factory (t ++ h) ≡ image) × (confirmations (t ++ h) ≡ 1)
    × ((s : Running) × ((after w (t ++ h)).board ≡ running s))

abbrev pub GoesOn : (a : Meaning) → a.Key → Type 0
GoesOn a key =
    (factory : List ℕ) (w : World a) → Loaded factory w → (h : List (Event a)) → Life a key w h →
    Restarts a key (after w h) × Updates a key factory w h
