use Rattle.std.proofs.Common.{refl, arith}
use Rattle.board.proofs.Images.{tail_in_one, tail_in_two}
use Rattle.board.proofs.reading.Stored.tail.Goals as goal

pub returns-then-from : goal.returns-then-from
returns-then-from g c =
    let image = c.args.self.now in
    tail_in_one _ image.reader.readable.1 image.place.first image.place.len (omega arith) (omega arith) _ c.fetch.new.scratch _ _ refl (omega arith)
    c.if-from.true c.fetch.ensures c.copy_from_slice.ensures.after

pub returns : goal.returns
returns g c =
    let image = c.args.self.now in
    tail_in_two _ image.reader.readable.1 image.place.first image.place.len (omega arith) (omega arith) _ _ c.fetch.new.scratch c.fetch-2.new.scratch _ _ refl
    c.if-from.false refl c.fetch.ensures c.fetch-2.ensures c.copy_from_slice-2.ensures.after c.copy_from_slice-3.ensures.after
