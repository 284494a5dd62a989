use Rattle.std.proofs.Common.{arith, rules}
use Rattle.std.proofs.lemmas.List.FromFn.{get_or-map-range_with_len}
use Rattle.aes.specs.Cipher.{power}
use Rattle.aes.proofs.tables.constant.Goals as goal

pub returns : goal.returns
unfolding power
returns c = get_or-map-range_with_len power 0 10 c.args.n c.args.n 0 (search rules) (omega arith)
