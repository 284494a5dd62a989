-- CMAC as a block algorithm.
use Rattle.std.specs.Prelude.{◌≡◌, ℕ, List, length, refl}
use Rattle.std.proofs.Common.{lit≤}
use Rattle.authenticator.specs.Feeding.{Chaining}
use Rattle.aes.specs.Cipher.{cipher, encrypted, add_round_key}
use Rattle.cmac.specs.Blocks.{zeros, xored}
use Rattle.cmac.specs.Cmac.{closed}

pub length-cipher : (key block : List ℕ) → length (cipher key block) ≡ 16
unfolding encrypted add_round_key
length-cipher key block = refl

abbrev pub cmac_chaining : Chaining
cmac_chaining = record {
  Key = List ℕ;
  Value = List ℕ;
  size = 16;
  start = λ key. zeros;
  step = λ key x block. cipher key (xored x block);
  finish = closed;
  low = lit≤ tt;
  high = lit≤ tt;
  sized = λ key x rest. length-cipher key _;
}
