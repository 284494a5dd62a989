-- The chip store: NOR flash, operation by operation, and its plan.
use Rattle.std.specs.Prelude.{◌≡◌, ℕ, zero, suc, ◌-◌, ◌<◌, ◌≤◌, Bool, true, false, not, List, [], ◌∷◌, ◌==◌, bit_and}
use Rattle.std.specs.List.{list_any, zip}
use Rattle.store.specs.Bank.{Cutting}
use Rattle.store.specs.Memory.{filled}

-- Some bit of `new` is 1 where that of `old` is 0.
abbrev pub rises : List ℕ → List ℕ → Bool
rises old new = list_any (λ p. not (bit_and p.0 p.1 == p.1)) (zip old new)

-- The first k bytes of a block programmed: a bit stays 1 only where it was 1 and the new one is.
unfoldable pub programmed : ℕ → List ℕ → List ℕ → List ℕ
programmed zero old new = old
programmed (suc k) [] new = []
programmed (suc k) (o ∷ old) [] = o ∷ old
programmed (suc k) (o ∷ old) (n ∷ new) = bit_and o n ∷ programmed k old new

-- The operations of a whole write: 512 bytes are programmed, after an erasure where one is due.
abbrev pub operations : Bool → ℕ
operations true = 513
operations false = 512

-- The block after the first k operations of a write. An erased block has bytes FF hex.
abbrev pub worked : Bool → ℕ → List ℕ → List ℕ → List ℕ
worked true zero old new = old
worked true (suc k) old new = programmed k (filled 0xff) new
worked false k old new = programmed k old new

-- A plan counts operations. It lets a write be done for which it has enough, and cuts any other where it ends. An
-- erasure is due where some bit must rise.
abbrev pub chip_cutting : Cutting ℕ
chip_cutting = record {
  Passes = λ plan old new rest. (operations (rises old new) ≤ plan) × (rest ≡ plan - operations (rises old new));
  Cuts = λ plan old new torn. (plan < operations (rises old new)) × (torn ≡ worked (rises old new) plan old new);
}
