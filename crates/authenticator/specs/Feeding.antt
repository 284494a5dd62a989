-- Authenticators that work on blocks of one width: what is held between two parts, and how a byte is taken in.
use Rattle.std.specs.Prelude.{◌≡◌, ℕ, zero, suc, ◌≤◌, cond, List, [], ◌∷◌, ◌++◌, length, take, drop, ◌==◌, refl}
use Rattle.authenticator.specs.Meaning.{Meaning}

-- What a block algorithm means: a chaining value that each block changes, and the tag that the last bytes close.
pub record Chaining : Type 1 where
  pub Key : Type 0
  pub Value : Type 0
  -- the length of a tag
  pub size : ℕ
  pub start : Key → Value
  -- the value after one block more
  pub step : Key → Value → List ℕ → Value
  -- the tag, from the value and from what follows the last block that was worked on
  pub finish : Key → Value → List ℕ → List ℕ
  pub low : 1 ≤ size
  pub high : size ≤ 32
  pub sized : (k : Key) (v : Value) (rest : List ℕ) → length (finish k v rest) ≡ size

-- What has been taken in: the chaining value over whole blocks, and the bytes that wait for more.
pub record Held (V : Type 0) : Type 0 where
  pub value : V
  pub waiting : List ℕ

-- The same from a buffer of which n bytes are used.
abbrev pub held : {V : Type 0} → V → ℕ → List ℕ → Held V
held v n buffer = record { value = v; waiting = take n buffer }

-- Room for one byte more: a full block is worked on, and only now that another byte comes, since closing may treat
-- the last block of a message in a way of its own.
abbrev pub roomed : {V : Type 0} → ℕ → (V → List ℕ → V) → Held V → Held V
roomed width step h =
    cond (length h.waiting == width) (record { value = step h.value h.waiting; waiting = [] }) h

abbrev pub byte : {V : Type 0} → ℕ → (V → List ℕ → V) → Held V → ℕ → Held V
byte width step h b =
    let r = roomed width step h in record { value = r.value; waiting = r.waiting ++ (b ∷ []) }

-- A part, byte by byte.
abbrev pub bytes : {V : Type 0} → ℕ → (V → List ℕ → V) → Held V → List ℕ → Held V
bytes width step h [] = h
bytes width step h (b ∷ part) = bytes width step (byte width step h b) part

pub bytes_joined : {V : Type 0} (width : ℕ) (step : V → List ℕ → V) (h : Held V) (a b : List ℕ)
    → bytes width step (bytes width step h a) b ≡ bytes width step h (a ++ b)
bytes_joined width step h [] b = refl
bytes_joined width step h (x ∷ a) b = bytes_joined width step (byte width step h x) a b

-- The value after the first n blocks of a message.
abbrev pub stepped : {V : Type 0} → ℕ → (V → List ℕ → V) → ℕ → V → List ℕ → V
stepped width step zero v message = v
stepped width step (suc n) v message = stepped width step n (step v (take width message)) (drop width message)

-- The authenticator that feeds a block algorithm of that width.
abbrev pub fed : ℕ → Chaining → Meaning
fed width c = record {
  Key = c.Key;
  State = Held c.Value;
  size = c.size;
  begin = λ k. record { value = c.start k; waiting = [] };
  feeds = λ k h part. bytes width (c.step k) h part;
  closes = λ k h. c.finish k h.value h.waiting;
  low = c.low;
  high = c.high;
  sized = λ k h. c.sized k h.value h.waiting;
  nothing = λ k h. refl;
  joined = λ k h a b. bytes_joined width (c.step k) h a b;
}
