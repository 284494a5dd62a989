use Rattle.std.proofs.Common.{◌/◌, ◌%◌, ◌^◌, refl, arith}
use Rattle.aes.proofs.Steps.{entry, mixed_sum}
use Rattle.aes.proofs.columns.mix_column.Goals as goal

pub returns : goal.returns
returns c =
    let x = c.args in
    mixed_sum c.mix.result c.mix-2.result c.mix-3.result c.mix-4.result _ _ _
    (entry c.mix.result (x.a / 2 ^ 24) (x.a / 2 ^ 24 % 256) c.mix.type_inv c.mix.ensures (omega arith) (omega arith))
    (entry c.mix-2.result (x.b / 2 ^ 16 % 256) (x.b / 2 ^ 16 % 256) c.mix-2.type_inv c.mix-2.ensures refl (omega arith))
    (entry c.mix-3.result (x.c / 2 ^ 8 % 256) (x.c / 2 ^ 8 % 256) c.mix-3.type_inv c.mix-3.ensures refl (omega arith))
    (entry c.mix-4.result (x.d % 256) (x.d % 256) c.mix-4.type_inv c.mix-4.ensures refl (omega arith))
    c.rotate_right.ensures c.rotate_right-2.ensures c.rotate_right-3.ensures
