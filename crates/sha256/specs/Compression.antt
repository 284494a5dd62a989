-- SHA-256's compression of one block: FIPS 180-4, sections 4.1.2, 4.2.2 and 6.2.2.
-- A word is a number below 2 ^ 32, a block is a list of 64 bytes, and a chaining value is a list of eight words.
use Rattle.std.specs.Prelude.{ℕ, zero, suc, ◌+◌, ◌-◌, ◌*◌, ◌/◌, ◌%◌, ◌^◌, cond, List, [], ◌∷◌, ◌++◌, bit_and, bit_or, bit_xor, nat_lt, slice_index, slice_index_or}

-- the sum of two words, and a word with each bit turned
abbrev pub plus : ℕ → ℕ → ℕ
plus x y = (x + y) % 2 ^ 32

abbrev pub complement : ℕ → ℕ
complement x = (2 ^ 32 - 1) - x

-- SHR: a word moved n places to the right; ROTR: the same, with what falls out put in on the left
abbrev pub shr : ℕ → ℕ → ℕ
shr n x = x / 2 ^ n

abbrev pub rotr : ℕ → ℕ → ℕ
rotr n x = bit_or (x / 2 ^ n) (x * 2 ^ (32 - n) % 2 ^ 32)

abbrev pub xor3 : ℕ → ℕ → ℕ → ℕ
xor3 x y z = bit_xor (bit_xor x y) z

-- 4.1.2: Ch and Maj
abbrev pub ch : ℕ → ℕ → ℕ → ℕ
ch x y z = bit_xor (bit_and x y) (bit_and (complement x) z)

abbrev pub maj : ℕ → ℕ → ℕ → ℕ
maj x y z = xor3 (bit_and x y) (bit_and x z) (bit_and y z)

-- 4.1.2: Σ0 and Σ1
abbrev pub big_sigma0 : ℕ → ℕ
big_sigma0 x = xor3 (rotr 2 x) (rotr 13 x) (rotr 22 x)

abbrev pub big_sigma1 : ℕ → ℕ
big_sigma1 x = xor3 (rotr 6 x) (rotr 11 x) (rotr 25 x)

-- 4.1.2: σ0 and σ1
abbrev pub small_sigma0 : ℕ → ℕ
small_sigma0 x = xor3 (rotr 7 x) (rotr 18 x) (shr 3 x)

abbrev pub small_sigma1 : ℕ → ℕ
small_sigma1 x = xor3 (rotr 17 x) (rotr 19 x) (shr 10 x)

-- 4.2.2: the constants, one for each round
abbrev pub constants : List ℕ
constants =
    0x428a2f98 ∷ 0x71374491 ∷ 0xb5c0fbcf ∷ 0xe9b5dba5 ∷ 0x3956c25b ∷ 0x59f111f1 ∷ 0x923f82a4 ∷ 0xab1c5ed5 ∷
    0xd807aa98 ∷ 0x12835b01 ∷ 0x243185be ∷ 0x550c7dc3 ∷ 0x72be5d74 ∷ 0x80deb1fe ∷ 0x9bdc06a7 ∷ 0xc19bf174 ∷
    0xe49b69c1 ∷ 0xefbe4786 ∷ 0x0fc19dc6 ∷ 0x240ca1cc ∷ 0x2de92c6f ∷ 0x4a7484aa ∷ 0x5cb0a9dc ∷ 0x76f988da ∷
    0x983e5152 ∷ 0xa831c66d ∷ 0xb00327c8 ∷ 0xbf597fc7 ∷ 0xc6e00bf3 ∷ 0xd5a79147 ∷ 0x06ca6351 ∷ 0x14292967 ∷
    0x27b70a85 ∷ 0x2e1b2138 ∷ 0x4d2c6dfc ∷ 0x53380d13 ∷ 0x650a7354 ∷ 0x766a0abb ∷ 0x81c2c92e ∷ 0x92722c85 ∷
    0xa2bfe8a1 ∷ 0xa81a664b ∷ 0xc24b8b70 ∷ 0xc76c51a3 ∷ 0xd192e819 ∷ 0xd6990624 ∷ 0xf40e3585 ∷ 0x106aa070 ∷
    0x19a4c116 ∷ 0x1e376c08 ∷ 0x2748774c ∷ 0x34b0bcb5 ∷ 0x391c0cb3 ∷ 0x4ed8aa4a ∷ 0x5b9cca4f ∷ 0x682e6ff3 ∷
    0x748f82ee ∷ 0x78a5636f ∷ 0x84c87814 ∷ 0x8cc70208 ∷ 0x90befffa ∷ 0xa4506ceb ∷ 0xbef9a3f7 ∷ 0xc67178f2 ∷ []

-- 6.2.2, step 1: word t of the message schedule for t below 16, the block's bytes with the highest first
abbrev pub loaded : List ℕ → ℕ → ℕ
loaded block t =
    slice_index block (4 * t) * 2 ^ 24 + slice_index block (4 * t + 1) * 2 ^ 16 + slice_index block (4 * t + 2) * 2 ^ 8 + slice_index block (4 * t + 3)

-- and for t from 16 on, from the words before it
abbrev pub extended : List ℕ → ℕ → ℕ
extended words t =
    plus (plus (plus (small_sigma1 (slice_index words (t - 2))) (slice_index words (t - 7))) (small_sigma0 (slice_index words (t - 15)))) (slice_index words (t - 16))

-- the first n words of the schedule
unfoldable pub schedule : ℕ → List ℕ → List ℕ
schedule zero block = []
schedule (suc t) block = schedule t block ++ cond (nat_lt t 16) (loaded block t) (extended (schedule t block) t) ∷ []

-- step 3: one round, with its constant and its word of the schedule
unfoldable pub rounded : List ℕ → ℕ → ℕ → List ℕ
rounded s k w =
    let a = slice_index_or s 0 0 in let b = slice_index_or s 1 0 in let c = slice_index_or s 2 0 in let d = slice_index_or s 3 0 in
    let e = slice_index_or s 4 0 in let f = slice_index_or s 5 0 in let g = slice_index_or s 6 0 in let h = slice_index_or s 7 0 in
    let t1 = plus (plus (plus (plus h (big_sigma1 e)) (ch e f g)) k) w in
    let t2 = plus (big_sigma0 a) (maj a b c) in
    plus t1 t2 ∷ a ∷ b ∷ c ∷ plus d t1 ∷ e ∷ f ∷ g ∷ []

-- the first n rounds, from the chaining value s
unfoldable pub rounds : ℕ → List ℕ → List ℕ → List ℕ
rounds zero words s = s
rounds (suc t) words s = rounded (rounds t words s) (slice_index constants t) (slice_index words t)

-- step 4: the sums with the chaining value
unfoldable pub added : List ℕ → List ℕ → List ℕ
added s t =
    plus (slice_index s 0) (slice_index t 0) ∷ plus (slice_index s 1) (slice_index t 1) ∷ plus (slice_index s 2) (slice_index t 2) ∷ plus (slice_index s 3) (slice_index t 3) ∷
    plus (slice_index s 4) (slice_index t 4) ∷ plus (slice_index s 5) (slice_index t 5) ∷ plus (slice_index s 6) (slice_index t 6) ∷ plus (slice_index s 7) (slice_index t 7) ∷ []

-- the chaining value after the chaining value s and a block
unfoldable pub compressed : List ℕ → List ℕ → List ℕ
compressed s block = added s (rounds 64 (schedule 64 block) s)
