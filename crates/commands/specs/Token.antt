-- What the commands make of the key that was read from a file.
use Rattle.std.specs.Prelude.{◌≡◌, ℕ, ◌/◌, ◌%◌, ◌⊎◌, List, ◌∷◌, length, Ok, Err, Result, ◌≢◌}
use Rattle.refusal.specs.declared.Refusal.{Refusal}
use Rattle.refusal.specs.declared.Refusal.TheVariants.{TagLength, WrongConfirmation}
use Rattle.commands.specs.declared.key.KeyFault.{KeyFault}
use Rattle.commands.specs.declared.kinds.Kind.{Kind}
use Rattle.commands.specs.Kind.{tag_of}

-- The token of an image under a key: the tag of the byte 0 and the image.
abbrev pub token : Kind → List ℕ → List ℕ → List ℕ
token kind key image = tag_of kind key (0 ∷ image)

-- The confirmation of a version and a nonce: the tag of the byte 1, the version, low byte first, and the nonce.
abbrev pub confirmed : Kind → List ℕ → ℕ → List ℕ → List ℕ
confirmed kind key version nonce = tag_of kind key (1 ∷ version % 256 ∷ version / 256 % 256 ∷ nonce)

-- A confirmation was checked against the right one, of that size: it is accepted where it is the same, else refused by its
-- length first.
abbrev pub Checks : ℕ → List ℕ → List ℕ → Result (Unit {0}) Refusal → Type 0
Checks size right confirmation (Ok _) = confirmation ≡ right
Checks size right confirmation (Err e) =
    ((e ≡ TagLength) × (length confirmation ≢ size))
    ⊎ ((e ≡ WrongConfirmation) × (length confirmation ≡ size) × (confirmation ≢ right))

-- A confirmation is accepted where there is a key and it is the one under that key.
abbrev pub Accepts : Kind → Result (List ℕ) KeyFault → ℕ → List ℕ → List ℕ → Type 0
Accepts kind (Ok key) version nonce confirmation = confirmation ≡ confirmed kind key version nonce
Accepts kind (Err fault) version nonce confirmation = ⊥
