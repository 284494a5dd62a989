use Rattle.std.proofs.Common.{get_or, rules}
use lib.Bits.{bit_xor}
use Rattle.cmac.specs.Blocks.{xored}
use Rattle.aes.proofs.Made.{made_by}
use Rattle.cmac.proofs.blocks.xor.Goals as goal

pub returns : goal.returns
unfolding xored
returns c = made_by _ (λ i. bit_xor (get_or c.args.a.now i 0) (get_or c.args.b.now i 0)) _ (λ i y q k. search rules) _ 16 c.from_fn.ensures.items
