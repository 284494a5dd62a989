use Rattle.std.proofs.Common.{ap, ◌∙◌, rules}
use Rattle.sha256.specs.Hash.{bytes4}
use Rattle.std.specs.List.{flat_map}
use Rattle.sha256.proofs.Ends.{digest_joined}
use Rattle.sha256.proofs.Made.{mapped_by}
use Rattle.sha256.proofs.digest.digest.Goals as goal

pub returns : goal.returns
returns c =
    let made = mapped_by _ bytes4 _ (λ x y q k. search rules) c.args.state _ 8 (search rules) c.map.ensures.items in
    c.copy_from_slice.ensures.after ∙ c.as_flattened.ensures.value ∙ ap (flat_map (λ b. b)) made ∙ digest_joined c.args.state
