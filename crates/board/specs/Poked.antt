-- Bytes that are put into blocks: each block is read, and then written.
use Rattle.std.specs.Prelude.{◌≡◌, ℕ, ◌+◌, true, false, ◌⊎◌, List, [], ◌∷◌, length, Ok, Err, Result}
use Rattle.store.specs.Medium.{Medium, dark}
use Rattle.board.specs.declared.answers.Supply.{Supply}
use Rattle.board.specs.Rows.{Row}
use Rattle.board.specs.Writes.{Put}

-- The supply that a read in a dark store tells of.
abbrev pub unread : Medium → ℕ → Supply
unread m b = record { write = 0; fault = dark m b }

-- Writes in a row, each ahead of which its block is read. A write leaves the store live, so that only the first read
-- can find it dark.
abbrev pub ReadRow : ℕ → List Put → Medium → Result Unit Supply → Medium → Type 0
ReadRow n [] m r e = (r ≡ Ok tt) × (e ≡ m)
ReadRow n (p ∷ plan) m r e =
    ((m.live ≡ false) × (r ≡ Err (unread m p.block)) × (e ≡ m))
    ⊎ ((m.live ≡ true) × Row n (p ∷ plan) m r e)

-- The same, where the number of the next write is answered.
abbrev pub Poked : ℕ → List Put → Medium → Result ℕ Supply → Medium → Type 0
Poked n plan m (Ok k) e = (k ≡ n + length plan) × ReadRow n plan m (Ok tt) e
Poked n plan m (Err s) e = ReadRow n plan m (Err s) e
