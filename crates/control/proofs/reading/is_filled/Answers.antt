use Rattle.std.proofs.Common.{rules, tests, ◌==◌, ◌-◌, take, drop}
use Rattle.std.proofs.lemmas.Iterator.{YieldsList-from_slice}
use Rattle.std.proofs.lemmas.Iterator.Search.{all_from_yields_List}
use Rattle.control.proofs.Formed.{decides_all}
use Rattle.control.proofs.reading.is_filled.Goals as goal

pub returns : goal.returns
returns c =
    decides_all c.args.used c.args.block.now c.all.result c.requires c.told-block
    (all_from_yields_List {all = take (510 - c.args.used) (drop c.args.used c.args.block.now)} (λ b. b == 0) _ _ _ c.all.ensures.ran (YieldsList-from_slice _ cc) (λ x b q k. search (rules, tests)))
