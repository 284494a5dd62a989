use Rattle.std.proofs.Common.{[], length, sym, refl, ◌∙◌}
use Rattle.std.proofs.lemmas.Result.{err_from_is_err_and}
use Rattle.store.proofs.Blocks.{held_block}
use Rattle.store.proofs.Lowest.{ready, refused}
use Rattle.store.proofs.memory.read_from.Goals as goal

pub returns-in_err-admit : goal.returns-in_err-admit
returns-in_err-admit c =
    let p = err_from_is_err_and c.from_residual.result c.from_residual.ensures.1 in
    rw (p.1, p.2) (refused c.args.memory.now c.args.live c.args.block (length c.args.buffer.now) _ c.in_err-admit.ensures, refl)

pub returns : goal.returns
returns c =
    let q = c.in_ok-admit.ensures in (
      ready c.args.memory.now c.args.live c.args.block (length c.args.buffer.now) q,
      c.copy_from_slice.ensures.after ∙ c.held.ensures ∙ sym (held_block c.args.memory.now c.args.block [] q.0.1),
    )
