-- AES-128: FIPS 197, sections 5.1 and 5.2. A key and a block are lists of sixteen bytes.
use Rattle.std.specs.Prelude.{ℕ, zero, suc, ◌+◌, ◌-◌, ◌*◌, ◌/◌, ◌%◌, cond, List, [], ◌∷◌, ◌++◌, map, ◌==◌, bit_xor, slice_index, slice_index_or}
use Rattle.aes.specs.Field.{xtime, sbox}
use Rattle.aes.specs.Words.{word, byte, state, at}

abbrev pub sum4 : ℕ → ℕ → ℕ → ℕ → ℕ
sum4 a b c d = bit_xor (bit_xor (bit_xor a b) c) d

-- 5.1.1: the S-box at each byte
unfoldable pub sub_bytes : List ℕ → List ℕ
sub_bytes s = state (λ r c. sbox (at s r c))

-- 5.1.2: row r moves r places to the left
unfoldable pub shift_rows : List ℕ → List ℕ
shift_rows s = state (λ r c. at s r ((c + r) % 4))

-- 5.1.3: a column times the fixed polynomial, by 2 and 3 in the field
abbrev pub double : ℕ → ℕ
double b = xtime b

abbrev pub triple : ℕ → ℕ
triple b = bit_xor (xtime b) b

abbrev pub mixed : ℕ → ℕ → ℕ → ℕ → List ℕ
mixed a b c d =
    sum4 (double a) (triple b) c d ∷ sum4 a (double b) (triple c) d ∷
    sum4 a b (double c) (triple d) ∷ sum4 (triple a) b c (double d) ∷ []

unfoldable pub mix_columns : List ℕ → List ℕ
mix_columns s = state (λ r c. slice_index (mixed (at s 0 c) (at s 1 c) (at s 2 c) (at s 3 c)) r)

-- 5.1.4: to column c is added word 4 n + c of the key schedule
unfoldable pub add_round_key : List ℕ → List ℕ → ℕ → List ℕ
add_round_key s w n = state (λ r c. bit_xor (at s r c) (byte r (slice_index w (4 * n + c))))

-- 5.2: the words of the key; SubWord, RotWord, and the constant of round n, which is x ^ (n - 1) in the first byte
abbrev pub key_words : List ℕ → List ℕ
key_words key =
    map (λ c. word (at key 0 c) (at key 1 c) (at key 2 c) (at key 3 c)) (0 ∷ 1 ∷ 2 ∷ 3 ∷ [])

abbrev pub sub_word : ℕ → ℕ
sub_word w = word (sbox (byte 0 w)) (sbox (byte 1 w)) (sbox (byte 2 w)) (sbox (byte 3 w))

abbrev pub rot_word : ℕ → ℕ
rot_word w = word (byte 1 w) (byte 2 w) (byte 3 w) (byte 0 w)

unfoldable pub power : ℕ → ℕ
power zero = 1
power (suc n) = xtime (power n)

abbrev pub rcon : ℕ → ℕ
rcon n = word (power (n - 1)) 0 0 0

-- word i of the schedule, from those before it
abbrev pub scheduled : List ℕ → ℕ → ℕ
scheduled w i =
    let before = slice_index_or w (i - 1) 0 in
    bit_xor (slice_index w (i - 4)) (cond (i % 4 == 0) (bit_xor (sub_word (rot_word before)) (rcon (i / 4))) before)

-- the key and the n words after it; and the whole schedule, eleven round keys
unfoldable pub schedule : ℕ → List ℕ → List ℕ
schedule zero key = key_words key
schedule (suc n) key = let w = schedule n key in w ++ scheduled w (4 + n) ∷ []

abbrev pub expanded : List ℕ → List ℕ
expanded key = schedule 40 key

-- 5.1: one round, and the first n of them
unfoldable pub rounded : List ℕ → List ℕ → ℕ → List ℕ
rounded s w n = add_round_key (mix_columns (shift_rows (sub_bytes s))) w n

unfoldable pub rounds : ℕ → List ℕ → List ℕ → List ℕ
rounds zero w s = s
rounds (suc n) w s = rounded (rounds n w s) w (suc n)

-- a block under a key schedule: the last round mixes no columns
unfoldable pub encrypted : List ℕ → List ℕ → List ℕ
encrypted w block = add_round_key (shift_rows (sub_bytes (rounds 9 w (add_round_key block w 0)))) w 10

-- a block under a key
abbrev pub cipher : List ℕ → List ℕ → List ℕ
cipher key block = encrypted (expanded key) block
