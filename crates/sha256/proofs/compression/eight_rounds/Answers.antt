use Rattle.std.proofs.Common.{◌+◌, arith}
use Rattle.sha256.proofs.Turns.{rounds-more}
use Rattle.sha256.proofs.compression.eight_rounds.Goals as goal

pub returns : goal.returns
returns c from s =
    let t = c.args.t in
    let s1 = rounds-more t (t + 1) _ _ from _ _ (omega arith) c.constant.ensures c.round-s1.ensures s in
    let s2 = rounds-more (t + 1) (t + 2) _ _ from _ _ (omega arith) c.constant-2.ensures c.round-s2.ensures s1 in
    let s3 = rounds-more (t + 2) (t + 3) _ _ from _ _ (omega arith) c.constant-3.ensures c.round-s3.ensures s2 in
    let s4 = rounds-more (t + 3) (t + 4) _ _ from _ _ (omega arith) c.constant-4.ensures c.round-s4.ensures s3 in
    let s5 = rounds-more (t + 4) (t + 5) _ _ from _ _ (omega arith) c.constant-5.ensures c.round-s5.ensures s4 in
    let s6 = rounds-more (t + 5) (t + 6) _ _ from _ _ (omega arith) c.constant-6.ensures c.round-s6.ensures s5 in
    let s7 = rounds-more (t + 6) (t + 7) _ _ from _ _ (omega arith) c.constant-7.ensures c.round-s7.ensures s6 in
    rounds-more (t + 7) (t + 8) _ _ from _ _ (omega arith) c.constant-8.ensures c.round.ensures s7
