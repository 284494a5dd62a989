use Rattle.std.proofs.Common.{◌+◌, ◌*◌, get_or, ap, ◌∙◌, rules}
use lib.Bits.{bit_xor}
use Rattle.aes.specs.Words.{columns}
use Rattle.aes.proofs.Made.{made_by}
use Rattle.aes.proofs.Steps.{key_added}
use Rattle.aes.proofs.columns.add_round_key.Goals as goal

pub returns : goal.returns
returns c =
    let s = c.args.s in let w = c.args.keys.now in let n = c.args.n in
    let made = made_by _ (λ i. bit_xor (get_or s i 0) (get_or w (4 * n + i) 0)) _ (λ i y q k. search rules) _ 4 c.from_fn.ensures.items in
    ap columns made ∙ key_added s w n
