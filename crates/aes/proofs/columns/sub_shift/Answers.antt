use Rattle.aes.specs.Words.{columns}
use Rattle.aes.specs.Cipher.{shift_rows, sub_bytes}
use Rattle.aes.proofs.Steps.{by_columns}
use Rattle.aes.proofs.columns.sub_shift.Goals as goal

pub returns : goal.returns
unfolding columns shift_rows sub_bytes
returns c = by_columns _ _ _ _ c.sub_column.ensures c.sub_column-2.ensures c.sub_column-3.ensures c.sub_column-4.ensures
