-- Bytes as text, two hexadecimal digits each.
use Rattle.std.specs.Prelude.{ℕ, ◌+◌, ◌-◌, ◌*◌, ◌/◌, ◌%◌, cond, ◌&&◌, List, [], ◌∷◌, Some, None, Option, nat_le, nat_lt}
use Rattle.std.specs.Option.{option_map, option_zip}

-- The digit of a value below 16: '0' to '9', then 'a' to 'f'.
abbrev pub digit_of : ℕ → ℕ
digit_of v = cond (nat_lt v 10) (48 + v) (87 + v)

-- Two digits a byte, in lower case, the high one first.
unfoldable pub hex_of : List ℕ → List ℕ
hex_of [] = []
hex_of (b ∷ bs) = digit_of (b / 16) ∷ digit_of (b % 16) ∷ hex_of bs

-- The value of a digit in either case; other characters have none.
abbrev pub value_of : ℕ → Option ℕ
value_of c =
    cond (nat_le 48 c && nat_le c 57) (Some (c - 48))
    (cond (nat_le 97 c && nat_le c 102) (Some (c - 87))
    (cond (nat_le 65 c && nat_le c 70) (Some (c - 55)) None))

-- The byte of two digits, the high one first, if they are digits.
abbrev pub byte_of : ℕ → ℕ → Option ℕ
byte_of high low = option_map (λ p. 16 * p.0 + p.1) (option_zip (value_of high) (value_of low))

-- The bytes of a text, if it is nothing but digits and their number is even.
unfoldable pub unhex : List ℕ → Option (List ℕ)
unhex [] = Some []
unhex (c ∷ []) = None
unhex (c ∷ d ∷ cs) = option_map (λ p. p.0 ∷ p.1) (option_zip (byte_of c d) (unhex cs))
