-- The token that an image travels with, and when none is made.
use Rattle.std.specs.Prelude.{◌≡◌, ℕ, ◌⊎◌, List, ◌∷◌, length, ◌≢◌}
use Rattle.refusal.specs.declared.Refusal.{Refusal}
use Rattle.refusal.specs.declared.Refusal.TheVariants.{WrongLength, BadImage}
use Rattle.authenticator.specs.Meaning.{Meaning, tag}
use Rattle.layout.specs.Image.{IsImage}

-- The token of an image: the tag of the byte 0, which marks a token, and the image's bytes.
abbrev pub token_of : (m : Meaning) → m.Key → List ℕ → List ℕ
token_of m key image = tag m key (0 ∷ image)

-- Why no token was made, in the order of the tests: the buffer has not 32 bytes; the bytes are no image.
abbrev pub Refuses : List ℕ → List ℕ → Refusal → Type 0
Refuses buffer image refusal =
    ((refusal ≡ WrongLength) × (length buffer ≢ 32))
    ⊎ ((refusal ≡ BadImage) × (length buffer ≡ 32) × (IsImage image → ⊥))
