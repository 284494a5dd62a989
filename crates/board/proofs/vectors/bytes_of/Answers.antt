use Rattle.std.proofs.Common.{[], arith}
use Rattle.board.proofs.Words.{four_words}
use Rattle.board.proofs.vectors.bytes_of.Goals as goal

pub returns : goal.returns
returns c =
    let mapped = c.map-words.ensures.items in
    four_words c.args.vectors c.map-words.result _ c.as_flattened.result.now (omega arith) mapped.long
    (mapped.at 0 0 [] (omega arith)).2.met (mapped.at 1 0 [] (omega arith)).2.met (mapped.at 2 0 [] (omega arith)).2.met (mapped.at 3 0 [] (omega arith)).2.met
    c.as_flattened.ensures.value c.in-Some.ensures.cases.same
