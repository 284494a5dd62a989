-- The window: a part of the store below it.
use Rattle.std.specs.Prelude.{◌≡◌, ℕ, ◌+◌, ◌<◌, ◌⊎◌, List, length, take, drop, Ok, Err, Result}
use Rattle.store.specs.declared.fault.Fault.{Fault}
use Rattle.store.specs.Calls.{Fits, Misfits, Writing}
use Rattle.store.specs.Faults.{above, passed}
use Rattle.store.specs.Medium.{Medium}

-- The blocks of m from `begin` on, as many as there are up to `size`, with the mark of m. One layer more stands over
-- the lowest store.
abbrev pub windowed : Medium → ℕ → ℕ → Medium
windowed m begin size = record {
  blocks = take size (drop begin m.blocks);
  live = m.live;
  place = (λ b. m.place (begin + b));
  layers = above m.layers;
}

-- What a layer answers for its block b where the store below answers r.
abbrev pub lifted : Result Unit Fault → ℕ → Result Unit Fault
lifted (Ok u) b = Ok u
lifted (Err f) b = Err (passed f b)

-- Where block b of the window lies in m, or the window's own refusal of a buffer of n bytes.
abbrev pub Placing : Medium → ℕ → ℕ → ℕ → ℕ → Result ℕ Fault → Type 0
Placing m begin size b n (Ok place) =
    Fits n b (length (windowed m begin size).blocks) × (place ≡ begin + b) × (place < length m.blocks)
Placing m begin size b n (Err f) = Misfits n b (length (windowed m begin size).blocks) f

-- What a write of x into block b of the window makes of the store m below it, where the window answers r: nothing,
-- or one write there, of block begin + b.
abbrev pub Below : Medium → ℕ → ℕ → ℕ → List ℕ → Result Unit Fault → Medium → Type 0
Below m begin size b x (Ok u) e = Writing m (begin + b) x (Ok u) e
Below m begin size b x (Err f) e =
    (Misfits (length x) b (length (windowed m begin size).blocks) f × (e ≡ m))
    ⊎ ((below : Fault) × (f ≡ passed below b) × Writing m (begin + b) x (Err below) e)
