-- How a key file is read.
use Rattle.std.specs.Prelude.{◌≡◌, ℕ, ◌-◌, ◌*◌, cond, ◌⊎◌, List, length, take, Ok, Err, Result, ◌==◌, slice_index, vec_items}
use Rattle.std.specs.Option.{ok_or}
use Rattle.std.specs.declared.vec.Vec.{Vec}
use Rattle.commands.specs.declared.failure.Failure.{Failure}
use Rattle.commands.specs.declared.failure.Failure.TheVariants.{Cause, Memory}
use Rattle.commands.specs.declared.key.KeyFault.{KeyFault}
use Rattle.commands.specs.declared.key.KeyFault.TheVariants.{WrongLength, NotHex}
use Rattle.commands.specs.Hex.{unhex}

-- A text without the newline at its end, if it has one there.
abbrev pub line : List ℕ → List ℕ
line text = cond (slice_index text (length text - 1) == 10) (take (length text - 1) text) text

-- The key of `len` bytes in a file: the file itself where it has that length; else what its line spells in hex,
-- two digits a byte.
abbrev pub key_of : ℕ → List ℕ → Result (List ℕ) KeyFault
key_of len file =
    cond (length file == len) (Ok file)
    (cond (length (line file) == 2 * len) (ok_or (unhex (line file)) NotHex) (Err WrongLength))

-- A key file was to be read: the key that it holds, or why it holds none. Memory is refused only where it has the length
-- of one or the other.
abbrev pub Read : {Z : Type 0} → ℕ → List ℕ → Result (Vec ℕ Z) (Failure KeyFault) → Type 0
Read len file (Ok key) = key_of len file ≡ Ok (vec_items key)
Read len file (Err (Cause fault)) = key_of len file ≡ Err fault
Read len file (Err (Memory e)) = (length file ≡ len) ⊎ (length (line file) ≡ 2 * len)
