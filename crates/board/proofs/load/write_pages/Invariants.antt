use Rattle.std.proofs.Common.{◌≡◌, ◌*◌, length, drop, Result}
use Rattle.std.specs.Iterator.Adapters.{enumerate_source, enumerate_count}
use Rattle.std.specs.Slice.Iter.{chunks_rest, chunks_size}
use Rattle.layout.specs.Address.{blocks_of}
use Rattle.store.specs.Medium.{Medium}
use Rattle.board.specs.declared.answers.Supply.{Supply}
use Rattle.board.specs.Calls.{puts}
use Rattle.board.specs.Rows.{Row}
use Rattle.board.specs.Stored.{pages}
use Rattle.board.proofs.Loaded.{Rest}
use Rattle.board.proofs.load.write_pages.Given as goal

abbrev pub invariant-loop-k : goal.invariant-loop-k
invariant-loop-k g l =
    let image = l.image.bytes.now in
    let blocks = blocks_of (length image) in
    let k = enumerate_count l.k-iterator in
    (goal.iterator-loop-k g).can_next l.k-iterator
    × (goal.iterator-loop-k g).is_finite l.k-iterator
    × (chunks_size (enumerate_source l.k-iterator) ≡ 512)
    × (chunks_rest (enumerate_source l.k-iterator) ≡ drop (512 * k) image)
    × ((r : Result Unit Supply) (e : Medium) → Rest blocks k image (g.S.Store.medium l.store) r e
    → Row 1 (puts 4 (pages blocks image)) (g.S.Store.medium l.initial.store) r e)
