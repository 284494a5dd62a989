use Rattle.sha256.proofs.Ends.{closed_one, closed_two}
use Rattle.sha256.proofs.padding.close.Goals as goal

pub returns-then-rest-lt56 : goal.returns-then-rest-lt56
returns-then-rest-lt56 c =
    let e = closed_one c.args.state _ _ _ c.args.bits c.if-rest-lt56.true c.marked-block.ensures c.counted.ensures in
    cc

pub returns-else-rest-lt56 : goal.returns-else-rest-lt56
returns-else-rest-lt56 c =
    let e =
    closed_two c.args.state _ _ _ c.args.bits c.if-rest-lt56.false c.requires c.marked-block.ensures
    c.counted-else-rest-lt56.ensures
    in
    cc
