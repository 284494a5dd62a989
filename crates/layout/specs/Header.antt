use Rattle.std.specs.Prelude.{ℕ, List}
use Rattle.layout.specs.declared.header.Header.{Header}
use Rattle.layout.specs.Image.{length_of, version_of, nonce_of}

-- The header that an image's bytes hold.
abbrev pub header_of : List ℕ → Header
header_of image = record { len = length_of image; version = version_of image; nonce = nonce_of image }
