use Rattle.std.proofs.Common.{arith, rules}
use Rattle.std.proofs.lemmas.List.FromFn.{get_or-map-range_with_len}
use Rattle.aes.specs.Field.{sbox, affine, squares, times}
use Rattle.aes.specs.Words.{word}
use Rattle.aes.specs.Cipher.{double, triple}
use Rattle.aes.proofs.tables.mix.Goals as goal

pub returns : goal.returns
unfolding sbox affine squares times
returns c =
    get_or-map-range_with_len (λ b. word (double (sbox b)) (sbox b) (sbox b) (triple (sbox b))) 0 256 c.args.b c.args.b 0 (search rules) (omega arith)
