use Rattle.aes.specs.Words.{columns}
use Rattle.aes.specs.Cipher.{mix_columns, shift_rows, sub_bytes}
use Rattle.aes.proofs.Steps.{by_columns}
use Rattle.aes.proofs.columns.sub_shift_mix.Goals as goal

pub returns : goal.returns
unfolding columns mix_columns shift_rows sub_bytes
returns c = by_columns _ _ _ _ c.mix_column.ensures c.mix_column-2.ensures c.mix_column-3.ensures c.mix_column-4.ensures
