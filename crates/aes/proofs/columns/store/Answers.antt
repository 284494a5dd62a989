use Rattle.std.proofs.Common.{ap, ◌∙◌, rules}
use Rattle.std.specs.List.{flat_map}
use Rattle.aes.specs.Words.{bytes_of}
use Rattle.aes.proofs.Made.{mapped_by}
use Rattle.aes.proofs.Steps.{stored}
use Rattle.aes.proofs.columns.store.Goals as goal

pub returns : goal.returns
returns c =
    let made = mapped_by _ bytes_of _ (λ x y q k. search rules) c.args.s _ 4 (search rules) c.map.ensures.items in
    c.copy_from_slice.ensures.after ∙ c.as_flattened.ensures.value ∙ ap (flat_map (λ b. b)) made ∙ stored c.args.s (search rules)
