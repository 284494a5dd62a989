-- The control blocks that are to be written, as writes.
use Rattle.std.specs.Prelude.{List, [], ◌∷◌}
use Rattle.control.specs.Blocks.{formed, pointer_to, flag_block}
use Rattle.board.specs.declared.closing.Content.{Content}
use Rattle.board.specs.declared.closing.Content.TheVariants.{Pointer, Vectors, Flag, BufferPointer}
use Rattle.board.specs.Writes.{Put, put}

abbrev pub planned : Content → Put
planned (Pointer place) = put 0 (pointer_to place.first place.len)
planned (Vectors vectors) = put 1 (formed vectors)
planned (Flag flag) = put 2 (flag_block flag)
planned (BufferPointer place) = put 3 (pointer_to place.first place.len)

abbrev pub plans : List Content → List Put
plans [] = []
plans (content ∷ contents) = planned content ∷ plans contents
