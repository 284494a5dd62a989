-- The states of a board.
use Rattle.std.specs.Prelude.{ℕ, ◌/◌, ◌%◌, List, [], ◌∷◌, ◌++◌}
use Rattle.layout.specs.Address.{ermin, ermax, entry}
use Rattle.layout.specs.declared.place.Place.{Place}
use Rattle.board.specs.declared.states.Running.{Running}
use Rattle.board.specs.declared.states.Matched.{Matched}
use Rattle.board.specs.declared.answers.Launch.{Launch}

pub data Board : Type 0 where
  cold : Board
  running : Running → Board
  matched : Matched → Board

-- The bytes of 64-bit words, low byte first.
abbrev pub eight : ℕ → List ℕ
eight w =
    w % 256 ∷ w / 256 % 256 ∷ w / 65536 % 256 ∷ w / 16777216 % 256 ∷ w / 4294967296 % 256 ∷ w / 1099511627776 % 256
    ∷ w / 281474976710656 % 256 ∷ w / 72057594037927936 % 256 ∷ []

unfoldable pub bytes_of : List ℕ → List ℕ
bytes_of [] = []
bytes_of (w ∷ ws) = eight w ++ bytes_of ws

-- Where the start code goes for an image at a place.
abbrev pub launch_of : Place → Launch
launch_of p = record { min = ermin p.first; max = ermax p.first p.len; entry = entry p.first }
