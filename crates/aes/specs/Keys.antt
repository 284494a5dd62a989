-- The key that is kept, as the first round key.
use Rattle.std.specs.Prelude.{ℕ, List}
use Rattle.aes.specs.Words.{columns}
use Rattle.aes.specs.declared.aes128.Aes128.{Aes128}

abbrev pub key_of : Aes128 → List ℕ
key_of a = columns a.keys
