use Rattle.std.proofs.lemmas.Result.{err_from_is_err_and}
use Rattle.board.proofs.Loaded.{load_row, load_stopped}
use Rattle.board.proofs.load.write_load.Goals as goal

pub returns-in_err-write_pages : goal.returns-in_err-write_pages
returns-in_err-write_pages g c =
    let p = err_from_is_err_and c.from_residual.result c.from_residual.ensures.1 in
    rw (p.1, p.2)
    (load_stopped c.args.image.bytes.now _ _ c.requires.0 c.requires.1 _ _ _ c.in_err-write_pages.ensures)

pub returns : goal.returns
returns g c =
    load_row c.args.image.bytes.now _ _ c.requires.0 c.requires.1 _ _ _ _ _ _ c.vectors.ensures c.blocks_of.ensures
    c.in_ok-write_pages.ensures c.put_all.ensures
