use Rattle.sha256.proofs.Ends.{marked_written}
use Rattle.sha256.proofs.padding.marked.Goals as goal

pub returns : goal.returns
returns c = marked_written c.args.rest.now _ c.copy_from_slice.ensures.after c.requires
