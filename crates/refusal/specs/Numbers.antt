-- The number of each refusal.
use Rattle.std.specs.Prelude.{ℕ}
use Rattle.refusal.specs.declared.Refusal.{Refusal}
use Rattle.refusal.specs.declared.Refusal.TheVariants.{StoreSize, WrongLength, BadImage, NotNewer, TagLength, WrongToken, BlockRange, RunningBlock, CorePc, Supply, NotLoaded, WrongConfirmation}

abbrev pub number_of : Refusal → ℕ
number_of StoreSize = 1
number_of WrongLength = 2
number_of BadImage = 3
number_of NotNewer = 4
number_of TagLength = 5
number_of WrongToken = 6
number_of BlockRange = 7
number_of RunningBlock = 8
number_of CorePc = 9
number_of Supply = 10
number_of NotLoaded = 11
number_of WrongConfirmation = 12
