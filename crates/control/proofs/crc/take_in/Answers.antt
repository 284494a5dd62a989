use Rattle.std.proofs.Common.{add-one}
use Rattle.control.proofs.crc.take_in.Goals as goal

pub loop-bit-preserved : goal.loop-bit-preserved
loop-bit-preserved c = rw add-one (cc)
