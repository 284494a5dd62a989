use Rattle.std.proofs.Common.{◌≡◌, ◌∙◌, arith, length-set, rules}
use Rattle.std.proofs.lemmas.List.{take_at}
use Rattle.aes.specs.Cipher.{schedule, expanded}
use Rattle.aes.proofs.Expansion.{schedule-more, schedule-all, expanded_key}
use Rattle.aes.proofs.schedule.expand.Goals as goal

pub loop-i-init : goal.loop-i-init
unfolding schedule
loop-i-init c = (search rules, take_at _ _ 4 c.copy_from_slice.ensures.len ∙ c.copy_from_slice.ensures.after ∙ c.load-first.ensures.words)

pub loop-i-preserved : goal.loop-i-preserved
loop-i-preserved c =
    (simp length-set (omega arith), schedule-more c.loop-i.i _ c.loop-i.w c.args.key.now (omega arith) (omega arith) c.next.ensures c.loop-i.invariant.1)

pub returns : goal.returns
returns c =
    let all : c.loop-i.w ≡ expanded c.args.key.now =
    schedule-all c.loop-i.i c.loop-i.w c.args.key.now (omega arith) c.loop-i.invariant.0 c.loop-i.invariant.1 in
    record { words = all; key = expanded_key _ _ _ all c.load-first.ensures.words c.load-first.ensures.columns }
