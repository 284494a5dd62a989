use Rattle.std.proofs.Common.{refl, arith}
use Rattle.aes.specs.Cipher.{rounds}
use Rattle.aes.proofs.Rounds.{rounds-more, rounds-all}
use Rattle.aes.proofs.cipher.encrypt.Goals as goal

pub loop-n-init : goal.loop-n-init
unfolding rounds
loop-n-init c = refl

pub loop-n-preserved : goal.loop-n-preserved
loop-n-preserved c = rounds-more c.loop-n.n _ _ _ _ _ (omega arith) c.loop-n.invariant c.sub_shift_mix.ensures c.add_round_key-next.ensures

pub returns : goal.returns
returns c =
    rounds-all _ c.args.keys.now c.args.block _ _ _ _ _ _ (omega arith)
    c.load.ensures.columns c.add_round_key-s.ensures c.loop-n.invariant c.sub_shift.ensures c.add_round_key.ensures c.store.ensures
