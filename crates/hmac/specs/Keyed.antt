-- What an authenticator of this crate holds, and when one is made.
use Rattle.std.specs.Prelude.{◌≡◌, ℕ, List, length}
use Rattle.authenticator.specs.Feeding.{Held, held}
use Rattle.authenticator.specs.declared.feeder.Feeder.{Feeder}
use Rattle.hmac.specs.declared.algorithm.HmacCore.{HmacCore}
use Rattle.hmac.specs.Chains.{Chains, Progress}

-- The chaining values of its key.
abbrev pub chains_in : Feeder HmacCore 64 → Chains
chains_in h = record { inner = h.core.inner; outer = h.core.outer }

-- What it has taken in of a message.
abbrev pub held_in : Feeder HmacCore 64 → Held Progress
held_in h = held (record { words = h.core.words; bits = h.core.bits }) h.used h.block

-- A key of 32 bytes, and 64 bytes in which its pads are formed.
abbrev pub Fits : List ℕ → List ℕ → Type 0
Fits key pads = (length pads ≡ 64) × (length key ≡ 32)
