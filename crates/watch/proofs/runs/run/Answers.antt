use Rattle.std.proofs.Common.{sym, arith, rules}
use denote.Enum.Bare.{same_true, same_false}
use Rattle.watch.specs.contracts.cycle.Verdict.{the_type}
use Rattle.watch.proofs.Progress.{progress_pass, progress_ended, progress_reset, run_ends, run_kept}
use Rattle.watch.proofs.runs.run.Goals as goal
use Rattle.watch.proofs.runs.run.Goals.{then-passes-i+then-eq, else-passes-i, else-passes-i-via-then-passes-i+else-eq, else-passes-i-via-else-passes-i}

pub loop-i-preserved : goal.loop-i-preserved
loop-i-preserved c =
    elim c.if-passes-i.branch [
      | then-passes-i+then-eq w ↦
          progress_pass c.args.running c.args.cycles.now _ _ _ _ _ c.step-verdict.result
          c.loop-i-test.true c.loop-i.invariant c.step-verdict.ensures (same_true the_type (search rules) _ _ (sym w.if-eq.ensures)) w.if-passes-i.true w.passes-is
      | else-passes-i w ↦ elim w.else-passes-i.branch [
        | else-passes-i-via-then-passes-i+else-eq v ↦
            progress_reset c.args.running c.args.cycles.now _ _ _ _ _ c.step-verdict.result
            c.loop-i-test.true c.loop-i.invariant c.step-verdict.ensures (same_false the_type _ _ (sym v.if-eq.ensures)) w.passes-is
        | else-passes-i-via-else-passes-i v ↦
            progress_ended c.args.running c.args.cycles.now _ _ _ _ _ c.step-verdict.result
            c.loop-i-test.true c.loop-i.invariant c.step-verdict.ensures v.if-passes-i.false w.passes-is
      ]
    ]

pub returns : goal.returns
returns c =
    let h = run_ends c.args.running c.args.cycles.now c.loop-i.i c.loop-i.state c.loop-i.passes (omega arith) c.loop-i.invariant in
    record { steps = h; kept = run_kept c.args.running c.args.cycles.now (c.loop-i.state, c.loop-i.passes) h }
