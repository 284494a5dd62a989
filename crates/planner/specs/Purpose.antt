-- What a tag is for, by the byte ahead of its message.
use Rattle.std.specs.Prelude.{ℕ}
use Rattle.planner.specs.declared.purpose.Purpose.{Purpose}
use Rattle.planner.specs.declared.purpose.Purpose.TheVariants.{Token, Confirmation}

abbrev pub byte_of : Purpose → ℕ
byte_of Token = 0
byte_of Confirmation = 1
