use Rattle.board.proofs.Offering.{taken}
use Rattle.board.proofs.states.Running.take.Goals as goal

pub returns : goal.returns
returns g c =
    let image = c.args.image in
    taken c.args.self (g.S.Store.medium image.reader.store.now) image.place c.args.header c.vectors-vectors.result
    image.reader.readable.1 image.lies c.requires.0 c.requires.1 c.vectors-vectors.ensures
