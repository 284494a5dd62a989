use Rattle.edges.proofs.Formed.{reads_back}
use Rattle.edges.proofs.blocks_read_back.Goals as goal

pub returns : goal.returns
returns c = reads_back
