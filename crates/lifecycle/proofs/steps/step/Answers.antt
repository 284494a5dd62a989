-- Each call that was made is an event of its own relation.
use Rattle.std.proofs.Common.{Some, refl}
use Rattle.board.specs.declared.answers.Answer.TheVariants.{Done}
use Rattle.board.specs.declared.results.Board.TheVariants as board
use Rattle.lifecycle.specs.declared.journal.Call.TheVariants as call
use Rattle.lifecycle.proofs.Calls.{as_told, start_made, stage_made, cycle_made, offer_made, install_made, leave_made, reset_made}
use Rattle.lifecycle.proofs.steps.step.Goals as goal

pub returns-in-Start-Cold-clause-made : goal.returns-in-Start-Cold-clause-made
returns-in-Start-Cold-clause-made g c =
    let s = c.start.ensures.call in
    as_told _ _ _ _ _ _ _ _ _ _ _ _ _ _ _ _ _ _ c.in-Start-Cold.is-0 c.in-Start-Cold.is-1 c.made.ensures
    (start_made _ _ _ _ _ _ _ _ _ _ _ _ _ _ (c.starts.ensures s.0 _) s.1)

pub returns-in-Stage-Running-clause-made : goal.returns-in-Stage-Running-clause-made
returns-in-Stage-Running-clause-made g c =
    let s = c.stage.ensures in
    as_told _ _ _ _ _ _ _ _ _ _ _ _ _ _ _ _ _ _ c.in-Stage-Running.is-0 c.in-Stage-Running.is-1 c.made-in-Stage-Running.ensures
    (stage_made _ _ _ _ _ _ _ _ _ _ _ (c.stages.ensures s.0 _) _ _ c.in-Stage-Running.bytes _ c.deref.ensures.value s.1)

pub returns-in-Cycle-Running-clause-made : goal.returns-in-Cycle-Running-clause-made
returns-in-Cycle-Running-clause-made g c =
    let s = c.cycle.ensures in
    as_told _ _ _ _ _ _ _ _ _ _ _ _ _ _ _ _ _ _ c.in-Cycle-Running.is-0 c.in-Cycle-Running.is-1 c.made-in-Cycle-Running.ensures
    (cycle_made _ _ _ _ _ _ _ _ _ _ _ (c.cycles.ensures s.0 _) _ _ _ _ _ s.1)

pub returns-in-Offer-Running-clause-made : goal.returns-in-Offer-Running-clause-made
returns-in-Offer-Running-clause-made g c =
    let s = c.offer.ensures.call in
    as_told _ _ _ _ _ _ _ _ _ _ _ _ _ _ _ _ _ _ c.in-Offer-Running.is-0 c.in-Offer-Running.is-1 c.made-in-Offer-Running.ensures
    (offer_made _ _ _ _ _ _ _ _ _ _ _ (c.offers.ensures s.0 _) _ _ _ _ c.in-Offer-Running.token _ c.deref-in-Offer-Running.ensures.value s.1)

pub returns-in-Leave-Matched-clause-made : goal.returns-in-Leave-Matched-clause-made
returns-in-Leave-Matched-clause-made g c =
    as_told g.K.Authenticator.means (g.K.Authenticator.key c.args.authenticator.now) _ _ _ _
    c.args.scratch.now c.args.scratch.now c.args.register.now c.args.register.now c.args.call.now call.Leave
    c.args.board _ _ (board.Running c.leave.result) (Some Done) Done c.in-Leave-Matched.is-0 c.in-Leave-Matched.is-1 (refl, refl)
    (leave_made _ _ _ _ _ _ _ _ c.leave.ensures)

pub returns-in-Install-Matched-clause-made : goal.returns-in-Install-Matched-clause-made
returns-in-Install-Matched-clause-made g c =
    let s = c.install.ensures.call in
    as_told _ _ _ _ _ _ _ _ _ _ _ _ _ _ _ _ _ _ c.in-Install-Matched.is-0 c.in-Install-Matched.is-1 c.made-in-Install-Matched.ensures
    (install_made _ _ _ _ _ _ _ _ _ _ _ _ _ _ (c.installs.ensures s.0 _) _ s.1)

pub returns-in-Reset-default-clause-made : goal.returns-in-Reset-default-clause-made
returns-in-Reset-default-clause-made g c =
    as_told g.K.Authenticator.means (g.K.Authenticator.key c.args.authenticator.now) _ _ _ _
    c.args.scratch.now c.args.scratch.now c.args.register.now c.args.register.now c.args.call.now call.Reset
    c.args.board c.args.board _ (board.Cold c.reset.result) (Some Done) Done c.in-Reset-default.is-0 refl (refl, refl)
    (reset_made _ _ _ _ _ _ _)
