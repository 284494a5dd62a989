-- A tag in a buffer of 32 bytes.
use Rattle.std.proofs.Common.{◌≡◌, ℕ, ◌-◌, List, ◌++◌, length, take, replicate, ap, ◌∙◌, arith}
use Rattle.std.proofs.lemmas.List.{append-nil, take_all, take-append-le}
use Rattle.authenticator.specs.Meaning.{padded}

-- a tag of 32 bytes has no zeros behind it
pub padded-whole : (t : List ℕ) → length t ≡ 32 → padded t ≡ t
padded-whole t e = ap (λ n. t ++ replicate (32 - n) 0) e ∙ append-nil t

-- the tag is the front of the buffer
pub front_padded : (t : List ℕ) (n : ℕ) → length t ≡ n → take n (padded t) ≡ t
front_padded t n e = take-append-le n t (replicate (32 - length t) 0) (omega arith) ∙ take_all n t (omega arith)
