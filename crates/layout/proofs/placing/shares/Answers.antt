use Rattle.std.proofs.Common.{rules}
use Rattle.layout.proofs.Shared.{shared_at_other, shared_at_first}
use Rattle.layout.proofs.placing.shares.Goals as goal

pub returns-then-other-first : goal.returns-then-other-first
returns-then-other-first c = search (rules, shared_at_other)

pub returns-then-first-other-2 : goal.returns-then-first-other-2
returns-then-first-other-2 c = search (rules, shared_at_first)
