use Rattle.std.proofs.Common.{◌∙◌, rules}
use Rattle.control.proofs.Formed.{checked}
use Rattle.control.proofs.forming.form.Goals as goal

pub returns : goal.returns
returns c = (search rules, c.write_check.ensures ∙ checked c.args.held.now c.lay.new.block c.lay.array_long c.lay.ensures)
