-- The two authenticators, by what a user needs to know of them.
use Rattle.std.specs.Prelude.{ℕ, List, codes}
use Rattle.hmac.specs.Hmac.{hmac}
use Rattle.cmac.specs.Cmac.{cmac}
use Rattle.commands.specs.declared.kinds.Kind.{Kind}
use Rattle.commands.specs.declared.kinds.Kind.TheVariants.{Hmac, Cmac}

abbrev pub name_of : Kind → List ℕ
name_of Hmac = codes "HMAC-SHA-256"
name_of Cmac = codes "AES-CMAC"

abbrev pub key_length : Kind → ℕ
key_length Hmac = 32
key_length Cmac = 16

abbrev pub tag_length : Kind → ℕ
tag_length Hmac = 32
tag_length Cmac = 16

-- The tag of a message under a key of that length, as the standard defines it.
abbrev pub tag_of : Kind → List ℕ → List ℕ → List ℕ
tag_of Hmac key message = hmac key message
tag_of Cmac key message = cmac key message
