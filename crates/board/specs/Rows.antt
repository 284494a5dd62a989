-- Writes in a row, as code makes them: each one by its number.
use Rattle.std.specs.Prelude.{◌≡◌, ℕ, suc, true, ◌⊎◌, List, [], ◌∷◌, Ok, Err, Result}
use Rattle.store.specs.Calls.{Writing}
use Rattle.store.specs.Medium.{Medium, after}
use Rattle.board.specs.declared.answers.Supply.{Supply}
use Rattle.board.specs.Writes.{Put}

-- The planned writes from number n on, one after the other: the store does not do one, or does it, and the others follow.
abbrev pub Row : ℕ → List Put → Medium → Result Unit Supply → Medium → Type 0
Row n [] m r e = (r ≡ Ok tt) × (e ≡ m)
Row n (p ∷ plan) m r e =
    ((s : Supply) × (r ≡ Err s) × (s.write ≡ n) × Writing m p.block p.bytes (Err s.fault) e)
    ⊎ (Writing m p.block p.bytes (Ok tt) (after m p.block p.bytes true)
    × Row (suc n) plan (after m p.block p.bytes true) r e)
