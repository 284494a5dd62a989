use Rattle.std.proofs.Common.{◌≡◌, ◌<◌, ◌≤◌, length, vec_items, arith, length-drop, length-take}
use Rattle.std.proofs.lemmas.Bool.Decides.{nat_tests}
use Rattle.commands.proofs.Hexed.{read_more, read_none, read_all, read_odd}
use Rattle.commands.proofs.hex.from_hex.Goals as goal

pub returns-in_default-byte : goal.returns-in_default-byte
returns-in_default-byte c =
    let two : 2 ≤ length c.loop-left.left.now = grind (arith, nat_tests) in
    record {
      value = read_none _ (vec_items c.loop-left.bytes) _ c.loop-left.invariant.0 two c.in_default-byte.ensures;
      len = tt;
    }

pub loop-left-preserved : goal.loop-left-preserved
loop-left-preserved c =
    let two : 2 ≤ length c.loop-left.left.now = grind (arith, nat_tests) in
    let more = read_more _ (vec_items c.loop-left.bytes) _ _ c.loop-left.invariant.0 two c.in-Some.ensures in
    (simp c.in_ok-push.ensures.items more, simp (length-take, length-drop) (omega (arith, c.in_ok-push.ensures.len)))

pub returns-then-is_empty : goal.returns-then-is_empty
returns-then-is_empty c =
    let test = c.if-is_empty.ensures in
    let none : length c.loop-left.left.now ≡ 0 = grind (arith, nat_tests) in
    record { value = read_all _ _ _ c.loop-left.invariant.0 none; len = omega arith }

pub returns-else-is_empty : goal.returns-else-is_empty
returns-else-is_empty c =
    let test = c.if-is_empty.ensures in
    let one : length c.loop-left.left.now < 2 = grind (arith, nat_tests) in
    let some : length c.loop-left.left.now ≡ 0 → ⊥ = grind (arith, nat_tests) in
    record { value = read_odd _ (vec_items c.loop-left.bytes) _ c.loop-left.invariant.0 one some; len = tt }
