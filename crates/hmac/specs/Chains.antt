-- HMAC as a block algorithm: what is kept of a key, and how a message is worked on block by block.
use Rattle.std.specs.Prelude.{ℕ, ◌+◌, ◌*◌, ◌%◌, ◌^◌, List, length}
use Rattle.std.proofs.Common.{lit≤}
use Rattle.authenticator.specs.Feeding.{Chaining}
use Rattle.sha256.specs.Compression.{compressed}
use Rattle.sha256.specs.Hash.{initial, finished}
use Rattle.sha256.proofs.Blocks.{length-finished}
use Rattle.hmac.specs.Hmac.{inner_pad, outer_pad}

-- What is kept of a key: the chaining values after the two key pads.
pub record Chains : Type 0 where
  pub inner : List ℕ
  pub outer : List ℕ

abbrev pub chains_of : List ℕ → Chains
chains_of key = record { inner = compressed initial (inner_pad key); outer = compressed initial (outer_pad key) }

-- How far the inner hash has come: its chaining value, and the count of bits so far, which wraps at 2 ^ 64.
pub record Progress : Type 0 where
  pub words : List ℕ
  pub bits : ℕ

abbrev pub hmac_chaining : Chaining
hmac_chaining = record {
  Key = Chains;
  Value = Progress;
  size = 32;
  start = λ k. record { words = k.inner; bits = 512 };
  step = λ k v block. record { words = compressed v.words block; bits = (v.bits + 512) % 2 ^ 64 };
  finish = λ k v rest. finished k.outer (finished v.words rest ((v.bits + 8 * length rest) % 2 ^ 64)) 768;
  low = lit≤ tt;
  high = lit≤ tt;
  sized = λ k v rest. length-finished k.outer (finished v.words rest ((v.bits + 8 * length rest) % 2 ^ 64)) 768;
}
