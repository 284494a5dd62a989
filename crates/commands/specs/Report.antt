-- What the commands print, and the status that the program ends with.
use Rattle.std.specs.declared.string.String.{String}
use Rattle.std.specs.Prelude.{string_bytes, ◌≡◌, ℕ, ◌⊎◌, List, ◌++◌, Ok, Err, codes, decimal, Result}
use Rattle.layout.specs.declared.header.Header.{Header}
use Rattle.layout.specs.Header.{header_of}
use Rattle.layout.specs.Image.{IsImage, vectors_of}
use Rattle.commands.specs.declared.key.KeyFault.{KeyFault}
use Rattle.commands.specs.declared.kinds.Kind.{Kind}
use Rattle.commands.specs.declared.failure.Failure.{Failure}
use Rattle.commands.specs.declared.failure.Failure.TheVariants.{Cause, Memory}
use Rattle.commands.specs.Hex.{hex_of}
use Rattle.commands.specs.Kind.{name_of}
use Rattle.commands.specs.Token.{token, Accepts}

-- The lines of a token that was made: a name and a value each.
abbrev pub numbers_text : Header → List ℕ
numbers_text header =
    codes "length " ++ (decimal header.len ++ (codes "\nversion " ++ (decimal header.version ++ codes "\nnonce ")))

unfoldable pub token_text : Kind → Header → List ℕ → List ℕ → List ℕ
token_text kind header vectors tag =
    numbers_text header ++ (hex_of header.nonce
    ++ (codes "\nvectors " ++ (hex_of vectors
    ++ (codes "\nauthenticator " ++ (name_of kind ++ (codes "\ntoken " ++ (hex_of tag ++ codes "\n")))))))

-- The token command: the lines and status 0 where there is a key and the bytes are an image, else status 1.
abbrev pub Reports : Kind → Result (List ℕ) KeyFault → List ℕ → ℕ → List ℕ → Type 0
Reports kind (Ok key) image status text =
    (IsImage image × (status ≡ 0) × (text ≡ token_text kind (header_of image) (vectors_of image) (token kind key image)))
    ⊎ ((IsImage image → ⊥) × (status ≡ 1))
Reports kind (Err fault) image status text = status ≡ 1

-- The verify command: yes and status 0 where the confirmation is accepted, else status 1.
abbrev pub Judges : Kind → Result (List ℕ) KeyFault → ℕ → List ℕ → List ℕ → ℕ → List ℕ → Type 0
Judges kind key version nonce confirmation status text =
    (Accepts kind key version nonce confirmation × (status ≡ 0) × (text ≡ codes "yes\n"))
    ⊎ ((Accepts kind key version nonce confirmation → ⊥) × (status ≡ 1))

-- What a command made: its text, with status 0; or what tells why not, with status 1. Without memory there is neither.
abbrev pub Ends : {Z : Type 0} → Result (String Z) (Failure (String Z)) → (ℕ → List ℕ → Type 0) → Type 0
Ends (Ok text) Says = Says 0 (string_bytes text)
Ends (Err (Cause text)) Says = Says 1 (string_bytes text)
Ends (Err (Memory e)) Says = Unit {0}
