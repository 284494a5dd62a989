-- What an authenticator of this crate holds.
use Rattle.std.specs.Prelude.{ℕ, List}
use Rattle.authenticator.specs.Feeding.{Held, held}
use Rattle.aes.specs.Keys.{key_of}
use Rattle.authenticator.specs.declared.feeder.Feeder.{Feeder}
use Rattle.cmac.specs.declared.algorithm.CmacCore.{CmacCore}

-- Its key.
abbrev pub key_in : Feeder CmacCore 16 → List ℕ
key_in c = key_of c.core.aes

-- What it has taken in of a message.
abbrev pub held_in : Feeder CmacCore 16 → Held (List ℕ)
held_in c = held c.core.chain c.used c.block
