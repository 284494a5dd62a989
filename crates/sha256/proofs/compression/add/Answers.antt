use Rattle.std.proofs.Common.{◌+◌, ◌%◌, ◌^◌, get_or, rules}
use Rattle.sha256.specs.Compression.{added}
use Rattle.sha256.proofs.Made.{made_by}
use Rattle.sha256.proofs.compression.add.Goals as goal

pub returns : goal.returns
unfolding added
returns c = made_by _ (λ i. (get_or c.args.s i 0 + get_or c.args.t i 0) % 2 ^ 32) _ (λ i y q k. search rules) _ 8 c.from_fn.ensures.items
