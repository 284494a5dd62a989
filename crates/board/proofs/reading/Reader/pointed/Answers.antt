use Rattle.control.specs.Blocks.{block_of}
use Rattle.board.proofs.Pointing.{illegal, legal}
use Rattle.board.proofs.reading.Reader.pointed.Goals as goal

pub returns-then-header-place : goal.returns-then-header-place
returns-then-header-place g c =
    illegal (g.S.Store.medium c.args.self.now.store.now) (block_of c.args.control) c.in_ok-place.place _ _ c.fetch.ensures
    c.header-header.ensures c.in_ok-place.ensures c.if-header-place.true

pub returns : goal.returns
returns g c =
    legal (g.S.Store.medium c.args.self.now.store.now) (block_of c.args.control) c.in_ok-place.place _ _ c.fetch.ensures
    c.header-header.ensures c.in_ok-place.ensures c.args.self.now.readable.1 c.if-header-place.false
