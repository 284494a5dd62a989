use Rattle.std.proofs.Common.{arith}
use Rattle.aes.specs.Keys.{key_of}
use Rattle.cmac.proofs.Last.{last_part, last_whole}
use Rattle.cmac.proofs.algorithm.CmacCore.last.Goals as goal

pub returns-then-used-lt-BLOCK : goal.returns-then-used-lt-BLOCK
returns-then-used-lt-BLOCK c =
    let s = c.args.self.now in
    last_part (key_of s.aes) c.args.block.now s.second _ _ c.args.used c.told-block (omega arith) s.part c.pad.ensures c.xor.ensures

pub returns-else-used-lt-BLOCK : goal.returns-else-used-lt-BLOCK
returns-else-used-lt-BLOCK c =
    let s = c.args.self.now in
    last_whole (key_of s.aes) c.args.block.now s.first _ c.args.used c.told-block (omega arith) s.whole c.xor-else-used-lt-BLOCK.ensures
