use Rattle.law.proofs.GoesOn.{goes_on}
use Rattle.law.proofs.Kept.{law}
use Rattle.law.proofs.law_stands.Goals as goal

pub returns : goal.returns
returns g c = record { law = law g.K.Authenticator.means; «open» = goes_on g.K.Authenticator.means }
