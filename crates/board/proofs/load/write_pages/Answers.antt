use Rattle.std.proofs.Common.{length, Ok, ◌∙◌, rules}
use Rattle.std.specs.Iterator.Adapters.{enumerate_count}
use Rattle.std.proofs.lemmas.Result.{err_from_is_err_and}
use Rattle.layout.specs.Address.{blocks_of}
use Rattle.board.proofs.Loaded.{wrote_page, lost_page, past_last, chunk_paged, chunk_next, chunk_within, chunk_past}
use Rattle.board.proofs.load.write_pages.Goals as goal

pub loop-k-preserved : goal.loop-k-preserved
loop-k-preserved g c =
    let image = c.args.image.bytes.now in
    let k = enumerate_count c.loop-k.k-iterator in
    let steps = c.in-Some.ensures.steps in
    let size = rw c.loop-k.invariant.2 at steps.0.1.1 in
    let within = chunk_within image _ k c.loop-k.invariant.3 steps.0.1.2 in
    let paged = chunk_paged image _ c.in-Some.page.now _ k c.loop-k.invariant.3 steps.0.1.0 size in (
      search rules,
      tt,
      steps.0.0 ∙ c.loop-k.invariant.2,
      rw steps.2 (chunk_next image _ c.in-Some.page.now _ k c.loop-k.invariant.3 steps.0.1.0 size),
      λ r e p.
          c.loop-k.invariant.4 r e
          (wrote_page (blocks_of (length image)) k image _ _ _ within (c.lay_page.ensures ∙ paged) (rw steps.1 at c.in_ok-put.ensures) r e (rw steps.2 at p)),
    )

pub returns-in_err-put : goal.returns-in_err-put
returns-in_err-put g c =
    let image = c.args.image.bytes.now in
    let k = enumerate_count c.loop-k.k-iterator in
    let steps = c.in-Some.ensures.steps in
    let size = rw c.loop-k.invariant.2 at steps.0.1.1 in
    let within = chunk_within image _ k c.loop-k.invariant.3 steps.0.1.2 in
    let paged = chunk_paged image _ c.in-Some.page.now _ k c.loop-k.invariant.3 steps.0.1.0 size in
    let p = err_from_is_err_and c.from_residual.result c.from_residual.ensures.1 in
    rw (p.1, p.2)
    (c.loop-k.invariant.4 _ _
    (lost_page (blocks_of (length image)) k image _ _ _ within (c.lay_page.ensures ∙ paged) c.in_err-put.field-0.0 (rw steps.1 at c.in_err-put.ensures)))

pub returns : goal.returns
returns g c =
    let image = c.args.image.bytes.now in
    let k = enumerate_count c.loop-k.k-iterator in
    c.loop-k.invariant.4 (Ok tt) _ (past_last (blocks_of (length image)) k image _ (chunk_past image _ k c.loop-k.invariant.3 c.in-None.ensures.steps.0.1.0))
