use Rattle.offer_edges.proofs.Stand.{edges}
use Rattle.offer_edges.proofs.offer_edges_stand.Goals as goal

pub returns : goal.returns
returns g c = edges g.K.Authenticator.means
