use Rattle.std.proofs.Common.{refl, inl, inr, arith}
use Rattle.std.proofs.lemmas.Bool.{both_ways}
use Rattle.board.proofs.states.Running.admit.Goals as goal

pub returns-then-not-is_newer : goal.returns-then-not-is_newer
returns-then-not-is_newer c =
    let lies = c.in-Some.ensures.0 in
    inr (
      (lies.1, λ past. omega (arith, lies.2, past)),
      inr (
        (λ s. both_ways c.shares.result c.if-shares.false (c.shares.ensures.1 s)),
        inl ((λ n. both_ways c.is_newer.result c.if-not-is_newer.true (c.is_newer.ensures.1 n)), refl),
      ),
    )
