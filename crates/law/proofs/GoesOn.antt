-- No life ends where nothing can follow.
use Rattle.authenticator.specs.Meaning.{Meaning}
use Rattle.law.specs.History.{after}
use Rattle.law.specs.Law.{offered, current, installs, confirmations}
use Rattle.law.specs.GoesOn.{GoesOn}
use Rattle.law.proofs.Kept.{Holding, holds}
use Rattle.law.proofs.Restarts.{restarts}
use Rattle.law.proofs.Updates.{updates}

-- a start can follow a cold end, and an update a running one
pub goes_on : (a : Meaning) (key : a.Key) → GoesOn a key
goes_on a key factory w x h t =
    let v : Holding a key factory w h = holds a key factory w x h t in (
      restarts a key (current factory h) (offered h) (confirmations h) (installs h) (after w h) v,
      updates a key factory w h (current factory h) (offered h) (confirmations h) (installs h) v t,
    )
