use Rattle.std.proofs.Common.{rules, ◌≡◌, ◌+◌, ◌-◌, ◌*◌, false, refl, arith}
use Rattle.std.proofs.lemmas.Result.{err_from_is_err_and}
use Rattle.store.specs.Bank.{bank, bank_of}
use Rattle.store.proofs.Blocks.{put_laid}
use Rattle.store.proofs.Bank.{owed-refused, owed-done, owed-cut}
use Rattle.store.proofs.memory.MemoryStoreStore.write.Goals as goal

pub returns-in_err-admit : goal.returns-in_err-admit
returns-in_err-admit g c =
    let p = err_from_is_err_and c.from_residual.result c.from_residual.ensures.1 in
    let owed = owed-refused g.M.Make.cutting (bank_of c.args.self.now) c.args.block c.args.bytes.now _ c.in_err-admit.ensures in
    rw (p.1, p.2) record { written = owed.written; own = owed.own; remainder = owed.remainder; named = refl }

pub returns : goal.returns
returns g c =
    let s = bank_of c.args.self.now in
    let tests = c.in_ok-admit.ensures in
    let width : (512 * c.args.block + 512) - 512 * c.args.block ≡ 512 = omega arith in
    let whole : c.unwrap-bytes.result.now ≡ c.args.bytes.now = search rules in
    let done = rw (width, whole) at c.in_default.ensures in
    let left = put_laid c.args.self.now.memory.now c.args.block _ _ _ width refl in
    let t = bank _ s.live c.write_part-done.new.plan in
    let owed = owed-done g.M.Make.cutting s c.args.block c.args.bytes.now t _ tests done.whole left done.written.1 done.written.0 tests.1 in
    record { written = owed.written; own = owed.own; remainder = owed.remainder; named = refl }

pub returns-in-Err : goal.returns-in-Err
returns-in-Err g c =
    let s = bank_of c.args.self.now in
    let width : (512 * c.args.block + 512) - 512 * c.args.block ≡ 512 = omega arith in
    let whole : c.unwrap-bytes.result.now ≡ c.args.bytes.now = search rules in
    let cut = rw (width, whole) at c.in-Err.ensures in
    let left = put_laid c.args.self.now.memory.now c.args.block _ _ _ width refl in
    let t = bank _ false c.write_part-done.new.plan in
    let owed = owed-cut g.M.Make.cutting s c.args.block c.args.bytes.now t _ c.in_ok-admit.ensures cut.whole left cut.written.1 refl cut.written.2 in
    rw (c.new.ensures, cut.written.0) record { written = owed.written; own = owed.own; remainder = owed.remainder; named = refl }
