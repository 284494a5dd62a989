-- The confirmation that a board writes for an installed image, and when one is not taken.
use Rattle.std.specs.Prelude.{◌≡◌, ℕ, ◌/◌, ◌%◌, ◌⊎◌, List, ◌∷◌, length, ◌≢◌}
use Rattle.refusal.specs.declared.Refusal.{Refusal}
use Rattle.refusal.specs.declared.Refusal.TheVariants.{TagLength, WrongConfirmation}
use Rattle.authenticator.specs.Meaning.{Meaning, tag}

-- The confirmation of a version and a nonce: the tag of the byte 1, which marks a confirmation, the version, low byte
-- first, and the nonce.
abbrev pub confirmation_of : (m : Meaning) → m.Key → ℕ → List ℕ → List ℕ
confirmation_of m key version nonce = tag m key (1 ∷ version % 256 ∷ version / 256 % 256 ∷ nonce)

-- Why a confirmation was not taken, in the order of the tests: it has not the length of a tag; it is not the tag.
abbrev pub Rejects : (m : Meaning) → m.Key → ℕ → List ℕ → List ℕ → Refusal → Type 0
Rejects m key version nonce confirmation refusal =
    ((refusal ≡ TagLength) × (length confirmation ≢ m.size))
    ⊎ ((refusal ≡ WrongConfirmation) × (length confirmation ≡ m.size) × (confirmation ≢ confirmation_of m key version nonce))
