use Rattle.std.proofs.Common.{◌≡◌, ◌+◌, ◌*◌, length, vec_items, vec_len}
use Rattle.commands.proofs.Hexed.{Reading}
use Rattle.commands.proofs.hex.from_hex.Given as goal

-- the bytes so far stand in front of those that are left
abbrev pub invariant-loop-left : goal.invariant-loop-left
invariant-loop-left l = Reading l.text (vec_items l.bytes) l.left × (2 * vec_len l.bytes + length l.left ≡ length l.text)

abbrev pub decreases-loop-left : goal.decreases-loop-left
decreases-loop-left l = length l.left
