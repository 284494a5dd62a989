use Rattle.hmac.specs.Keyed.{chains_in}
use Rattle.hmac.proofs.Law.{keyed_law}
use Rattle.hmac.proofs.authenticators.keyed.Goals as goal

pub returns-in-Some-clause-law : goal.returns-in-Some-clause-law
returns-in-Some-clause-law c = keyed_law c.formed.result chains_in _ _ c.args.key.now c.formed.ensures.answer c.formed.ensures.made
