use Rattle.std.proofs.Common.{[], refl, rules}
use Rattle.board.proofs.states.Cold.finish.Goals as goal

pub returns-in-None : goal.returns-in-None
returns-in-None g c =
    record { key = refl; call = ([], record { outcome = search rules; register_left = c.requires.0; state_left = refl }) }
