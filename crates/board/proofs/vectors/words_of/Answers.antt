use Rattle.std.proofs.Common.{[], arith}
use Rattle.board.proofs.Words.{words_back}
use Rattle.board.proofs.vectors.words_of.Goals as goal

pub returns : goal.returns
returns c =
    let mapped = c.map.ensures.items in
    words_back c.args.bytes.now c.map.result c.as_chunks.result.0.now (omega arith) mapped.long c.fits-bytes c.as_chunks.ensures.front
    (mapped.at 0 [] 0 (omega arith)).2.met (mapped.at 1 [] 0 (omega arith)).2.met (mapped.at 2 [] 0 (omega arith)).2.met (mapped.at 3 [] 0 (omega arith)).2.met
