use Rattle.std.proofs.Common.{[], ◌∷◌, rules}
use Rattle.board.specs.declared.answers.Answer.TheVariants.{Done}
use Rattle.board.specs.States.{running}
use Rattle.board.specs.Writes.{put}
use Rattle.board.proofs.Made.{all_done, not_done}
use Rattle.board.proofs.states.Running.stage.Goals as goal

pub returns-in-Ok : goal.returns-in-Ok
returns-in-Ok g c =
    let m = g.S.Store.medium c.args.store.now in
    let e = g.S.Store.medium c.put.new.store in
    let plan = put c.args.block c.args.bytes.now ∷ [] in
    let w = all_done plan m Done (running c.args.self) e c.in-Ok.ensures in (w.0, search rules)

pub returns-in-Err : goal.returns-in-Err
returns-in-Err g c =
    let m = g.S.Store.medium c.args.store.now in
    let e = g.S.Store.medium c.put.new.store in
    let plan = put c.args.block c.args.bytes.now ∷ [] in
    let w = not_done plan m Done (running c.args.self) e c.in-Err.supply c.in-Err.ensures in (w.0, search rules)
