use Rattle.edges.proofs.Stand.{edges}
use Rattle.edges.proofs.edges_stand.Goals as goal

pub returns : goal.returns
returns c = edges
