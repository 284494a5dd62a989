use Rattle.std.proofs.Common.{refl}
use Rattle.std.proofs.lemmas.Result.{err_from_is_err_and}
use Rattle.board.proofs.Poking.{no_address, out_of_store, put_done, put_cut}
use Rattle.board.proofs.pokes.poke.Goals as goal

pub returns-in_default : goal.returns-in_default
returns-in_default g c = no_address c.args.write (g.S.Store.medium c.args.store.now) c.args.at c.args.byte c.in_default.is

pub returns-then-not-in_store : goal.returns-then-not-in_store
returns-then-not-in_store g c =
    out_of_store c.args.write (g.S.Store.medium c.args.store.now) c.args.at c.args.byte c.count.result c.in-Some.at
    c.in-Some.is _ c.if-not-in_store.ensures c.count.ensures.number refl

pub returns-in_err-rewrite : goal.returns-in_err-rewrite
returns-in_err-rewrite g c =
    let p = err_from_is_err_and c.from_residual.result c.from_residual.ensures.1 in
    rw (p.1, p.2)
    (put_cut c.args.write (g.S.Store.medium c.args.store.now) c.args.at c.args.byte c.count.result c.in-Some.at
    c.in-Some.is _ c.if-not-in_store.ensures c.count.ensures.number refl c.in_err-rewrite.field-0.0
    (g.S.Store.medium c.rewrite.new.store) c.in_err-rewrite.ensures)

pub returns : goal.returns
returns g c =
    put_done c.args.write (g.S.Store.medium c.args.store.now) c.args.at c.args.byte c.count.result c.in-Some.at
    c.in-Some.is _ c.if-not-in_store.ensures c.count.ensures.number refl
    (g.S.Store.medium c.rewrite.new.store) c.in_ok-rewrite.ensures
