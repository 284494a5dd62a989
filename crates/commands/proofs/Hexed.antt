-- How digits are written and read step by step.
use Rattle.std.proofs.Common.{◌≡◌, ℕ, suc, ◌+◌, ◌-◌, ◌*◌, ◌/◌, ◌%◌, ◌<◌, ◌≤◌, List, [], ◌∷◌, ◌++◌, length, get_or, take, drop, Some, None, Option, sym, refl, ap, ◌∙◌, append_assoc, append-nil, arith}
use Rattle.std.proofs.lemmas.Bool.Decides.{nat_tests}
use Rattle.std.proofs.lemmas.List.{at_drop_more, at_drop_all, take_all}
use Rattle.std.specs.Option.{option_map, option_zip}
use Rattle.commands.specs.Hex.{digit_of, hex_of, value_of, byte_of, unhex}

-- One more byte is written: its two digits go from what is left to the text.
pub written_more : (t whole : List ℕ) (bs : List ℕ) (i : ℕ) → i < length bs → t ++ hex_of (drop i bs) ≡ whole → ((t ++ (digit_of (get_or bs i 0 / 16) ∷ [])) ++ (digit_of (get_or bs i 0 % 16) ∷ [])) ++ hex_of (drop (i + 1) bs) ≡ whole
unfolding hex_of
written_more t whole bs i h e =
    let m : hex_of (drop i bs) ≡ digit_of (get_or bs i 0 / 16) ∷ digit_of (get_or bs i 0 % 16) ∷ hex_of (drop (i + 1) bs) = at_drop_more hex_of bs i 0 h in
    simp append_assoc (rw m at e)

-- All bytes are written.
pub written_all : (t whole : List ℕ) (bs : List ℕ) (i : ℕ) → length bs ≤ i → t ++ hex_of (drop i bs) ≡ whole → t ≡ whole
unfolding hex_of
written_all t whole bs i h e =
    let m : hex_of (drop i bs) ≡ [] = at_drop_all hex_of bs i h in
    sym (append-nil t) ∙ (rw m at e)

-- What is read so far, with the bytes of what is left behind it.
abbrev pub Reading : List ℕ → List ℕ → List ℕ → Type 0
Reading text read left = unhex text ≡ option_map (λ bs. read ++ bs) (unhex left)

-- A byte goes from the front of what is left to the end of what is read.
moved : (read : List ℕ) (b : ℕ) (o : Option (List ℕ)) → option_map (λ bs. read ++ bs) (option_map (λ p. p.0 ∷ p.1) (option_zip (Some b) o)) ≡ option_map (λ bs. (read ++ (b ∷ [])) ++ bs) o
moved read b None = refl
moved read b (Some bs) = rw append_assoc refl

-- Two digits are read.
pub read_more : (text read left : List ℕ) (b : ℕ) → Reading text read left → 2 ≤ length left → Some b ≡ byte_of (get_or left 0 0) (get_or left 1 0) → Reading text (read ++ (b ∷ [])) (take (length left - 2) (drop 2 left))
unfolding unhex
read_more text read [] b e h d = absurd (omega arith)
read_more text read (x ∷ []) b e h d = absurd (omega arith)
read_more text read (x ∷ y ∷ cs) b e h d =
    let l : length cs ≤ length (x ∷ y ∷ cs) - 2 = omega arith in
    let t : take (length (x ∷ y ∷ cs) - 2) cs ≡ cs = take_all _ cs l in
    let s : byte_of x y ≡ Some b = sym d in
    rw t (e ∙ rw s (moved read b (unhex cs)))

-- Two characters are no byte.
pub read_none : (text read left : List ℕ) → Reading text read left → 2 ≤ length left → None ≡ byte_of (get_or left 0 0) (get_or left 1 0) → None ≡ unhex text
unfolding unhex
read_none text read [] e h d = absurd (omega arith)
read_none text read (x ∷ []) e h d = absurd (omega arith)
read_none text read (x ∷ y ∷ cs) e h d =
    let s : byte_of x y ≡ None = sym d in
    sym (e ∙ rw s refl)

-- Nothing is left.
pub read_all : (text read left : List ℕ) → Reading text read left → length left ≡ 0 → Some read ≡ unhex text
unfolding unhex
read_all text read [] e h = sym (e ∙ rw append-nil refl)
read_all text read (x ∷ xs) e h = absurd (omega arith)

-- One character is left.
pub read_odd : (text read left : List ℕ) → Reading text read left → length left < 2 → (length left ≡ 0 → ⊥) → None ≡ unhex text
unfolding unhex
read_odd text read [] e h n = absurd (n refl)
read_odd text read (x ∷ []) e h n = sym e
read_odd text read (x ∷ y ∷ cs) e h n = absurd (omega arith)

-- A digit's value is the value that it was made of.
value_digit : (v : ℕ) → v < 16 → value_of (digit_of v) ≡ Some v
value_digit v h = grind (arith, nat_tests)

-- Two digits of a byte are that byte again.
byte_digits : (b : ℕ) → b < 256 → byte_of (digit_of (b / 16)) (digit_of (b % 16)) ≡ Some b
byte_digits b h =
    let high : value_of (digit_of (b / 16)) ≡ Some (b / 16) = value_digit (b / 16) (omega arith) in
    let low : value_of (digit_of (b % 16)) ≡ Some (b % 16) = value_digit (b % 16) (omega arith) in
    let whole : 16 * (b / 16) + b % 16 ≡ b = omega arith in
    rw (high, low) (ap (λ n. Some n) whole)

-- Bytes that are written as digits are read again.
pub round_trip : (bs : List ℕ) → ((k : ℕ) → get_or bs k 0 < 256) → unhex (hex_of bs) ≡ Some bs
unfolding hex_of unhex
round_trip [] h = refl
round_trip (b ∷ bs) h =
    let front : byte_of (digit_of (b / 16)) (digit_of (b % 16)) ≡ Some b = byte_digits b (h 0) in
    let back : unhex (hex_of bs) ≡ Some bs = round_trip bs (λ k. h (suc k)) in
    rw (front, back) refl
