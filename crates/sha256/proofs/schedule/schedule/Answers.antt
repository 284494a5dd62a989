use Rattle.std.proofs.Common.{◌∙◌, rules}
use Rattle.std.proofs.lemmas.List.{take_at}
use Rattle.sha256.specs.Compression.{loaded, schedule}
use Rattle.sha256.proofs.Made.{made_by}
use Rattle.sha256.proofs.schedule.schedule.Goals as goal

pub loop-i-init : goal.loop-i-init
unfolding schedule
loop-i-init c =
    let made = made_by _ (loaded c.args.block.now) _ (λ i y q k. search rules) _ 16 c.from_fn-loaded.ensures.items in
    (search rules, take_at _ _ 16 c.copy_from_slice.ensures.len ∙ c.copy_from_slice.ensures.after ∙ made)
