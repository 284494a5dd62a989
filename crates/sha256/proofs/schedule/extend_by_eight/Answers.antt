use Rattle.std.proofs.Common.{◌+◌, arith, rules}
use Rattle.sha256.proofs.Turns.{Scheduled, scheduled_extended}
use Rattle.sha256.proofs.schedule.extend_by_eight.Goals as goal

pub returns : goal.returns
returns c block s =
    let t = c.args.t in
    let w0 : Scheduled t c.args.words.now block = (search rules, s) in
    let w1 = scheduled_extended t (t + 1) _ _ block (omega arith) (omega arith) (omega arith) c.extended_word.ensures w0 in
    let w2 = scheduled_extended (t + 1) (t + 2) _ _ block (omega arith) (omega arith) (omega arith) c.extended_word-2.ensures w1 in
    let w3 = scheduled_extended (t + 2) (t + 3) _ _ block (omega arith) (omega arith) (omega arith) c.extended_word-3.ensures w2 in
    let w4 = scheduled_extended (t + 3) (t + 4) _ _ block (omega arith) (omega arith) (omega arith) c.extended_word-4.ensures w3 in
    let w5 = scheduled_extended (t + 4) (t + 5) _ _ block (omega arith) (omega arith) (omega arith) c.extended_word-5.ensures w4 in
    let w6 = scheduled_extended (t + 5) (t + 6) _ _ block (omega arith) (omega arith) (omega arith) c.extended_word-6.ensures w5 in
    let w7 = scheduled_extended (t + 6) (t + 7) _ _ block (omega arith) (omega arith) (omega arith) c.extended_word-7.ensures w6 in
    let w8 = scheduled_extended (t + 7) (t + 8) _ _ block (omega arith) (omega arith) (omega arith) c.extended_word-8.ensures w7 in
    w8.1
