use Rattle.std.proofs.Common.{◌≡◌, ◌+◌, ◌-◌, ◌*◌, ◌≤◌, ◌++◌, length, drop, string_bytes, string_len, string_capacity}
use Rattle.commands.specs.Hex.{hex_of}
use Rattle.commands.proofs.hex.push_hex.Given as goal

-- the text with what is left is the whole, and there is room for it
abbrev pub invariant-loop-b : goal.invariant-loop-b
invariant-loop-b l =
    (string_bytes l.text ++ hex_of (drop l.b-index l.bytes) ≡ string_bytes l.initial.text ++ hex_of l.bytes)
    × (string_len l.text + 2 * (length l.bytes - l.b-index) ≤ string_capacity l.text)
