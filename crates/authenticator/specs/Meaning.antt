-- What an authenticator means, whatever it is made of.
use Rattle.std.specs.Prelude.{◌≡◌, ℕ, ◌-◌, ◌≤◌, List, [], ◌++◌, length, replicate}

-- A beginning, a rule for feeding and a rule for closing, all fixed by the key, with the laws that every
-- authenticator owes.
pub record Meaning : Type 1 where
  pub Key : Type 0
  pub State : Type 0
  -- the length of a tag
  pub size : ℕ
  pub begin : Key → State
  pub feeds : Key → State → List ℕ → State
  -- the tag
  pub closes : Key → State → List ℕ
  pub low : 1 ≤ size
  pub high : size ≤ 32
  pub sized : (k : Key) (s : State) → length (closes k s) ≡ size
  -- feeding nothing changes nothing
  pub nothing : (k : Key) (s : State) → feeds k s [] ≡ s
  -- feeding a, then b, is feeding a joined to b
  pub joined : (k : Key) (s : State) (a b : List ℕ) → feeds k (feeds k s a) b ≡ feeds k s (a ++ b)

-- The tag of a message: what closing gives after the beginning was fed the message.
abbrev pub tag : (m : Meaning) → m.Key → List ℕ → List ℕ
tag m k message = m.closes k (m.feeds k (m.begin k) message)

-- A tag as it stands in a buffer of 32 bytes: zeros behind it.
abbrev pub padded : List ℕ → List ℕ
padded t = t ++ replicate (32 - length t) 0
