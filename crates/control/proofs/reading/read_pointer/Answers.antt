use Rattle.std.proofs.Common.{length, ap, sym, ◌∙◌}
use Rattle.std.proofs.lemmas.Bool.{both_ways}
use Rattle.control.proofs.Held.{unpointed, pointed}
use Rattle.control.proofs.reading.read_pointer.Goals as goal

pub returns-then-not-is_standing : goal.returns-then-not-is_standing
returns-then-not-is_standing c =
    let h = c.in_ok-block.ensures in
    (h.0, unpointed c.args.count c.args.block.now (λ s. both_ways _ c.if-not-is_standing.true (c.is_standing.ensures.1 (rw (h.1) s))))

pub returns : goal.returns
returns c =
    let h = c.in_ok-block.ensures in (
      h.0,
      rw (sym h.1) (pointed c.args.count c.in_ok-block.block.now _ _ c.between.result (ap length h.1 ∙ h.0) (c.is_standing.ensures.0 c.if-not-is_standing.false)
          (λ k. rw (h.1) (c.type_inv.block k).fits) c.ends-min.ensures.0 c.ends-min.ensures.1 c.between.ensures),
    )
