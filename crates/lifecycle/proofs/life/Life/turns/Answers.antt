use Rattle.lifecycle.proofs.Grown.{continues}
use Rattle.lifecycle.proofs.life.Life.turns.Goals as goal

pub returns-in_default : goal.returns-in_default
returns-in_default g c = continues c.loop.invariant c.ask.ensures.life

pub returns-in_err-answer : goal.returns-in_err-answer
returns-in_err-answer g c = continues (continues c.loop.invariant c.ask.ensures.life) c.perform.ensures.life

pub loop-preserved : goal.loop-preserved
loop-preserved g c = continues (continues c.loop.invariant c.ask.ensures.life) c.perform.ensures.life
