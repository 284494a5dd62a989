use Rattle.std.proofs.Common.{◌≡◌, ℕ, ◌<◌, List, [], ◌∷◌, length, refl, arith}
use Rattle.std.proofs.lemmas.Bool.Decides.{nat_tests}
use Rattle.commands.specs.Key.{line}
use Rattle.commands.proofs.key.without_newline.Goals as goal

-- A text of no characters has no newline at its end.
empty_line : (text : List ℕ) → length text < 1 → text ≡ line text
empty_line [] h = refl
empty_line (x ∷ xs) h = absurd (omega arith)

pub returns-in_default : goal.returns-in_default
returns-in_default c = empty_line _ (grind (arith, nat_tests))
