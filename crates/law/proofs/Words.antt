-- Bytes, eight to a word.
use Rattle.std.proofs.Common.{◌≡◌, ℕ, zero, suc, ◌+◌, ◌*◌, ◌/◌, ◌%◌, ◌<◌, List, [], ◌∷◌, ◌++◌, length, sym, refl, ap, ◌∙◌, ap₂, div-one, arith}
use native.Mathlib.Nat.{div-div-eq-div-mul}
use Rattle.std.specs.List.{AllByRecursion}
use Rattle.board.specs.States.{eight, bytes_of}

-- a byte of a word, and what is above it
digit : (n low high : ℕ) → n ≡ low + 256 * high → low < 256 → n % 256 ≡ low
digit n low high e small = omega arith

-- what is above it
above : (w d d' low high : ℕ) → d * 256 ≡ d' → w / d ≡ low + 256 * high → low < 256 → w / d' ≡ high
above w d d' low high step e small =
    ap (λ (x : ℕ). w / x) (sym step) ∙ sym (div-div-eq-div-mul w d 256) ∙ ap (λ (x : ℕ). x / 256) e ∙ omega arith

-- the bytes of the word that eight bytes make
word_of : (a b c d e f g h : ℕ) → a < 256 → b < 256 → c < 256 → d < 256 → e < 256 → f < 256 → g < 256 → h < 256 →
    (w : ℕ) × (eight w ≡ a ∷ b ∷ c ∷ d ∷ e ∷ f ∷ g ∷ h ∷ [])
word_of a b c d e f g h la lb lc ld le lf lg lh =
    let w7 : ℕ = h + 256 * 0 in
    let w6 : ℕ = g + 256 * w7 in
    let w5 : ℕ = f + 256 * w6 in
    let w4 : ℕ = e + 256 * w5 in
    let w3 : ℕ = d + 256 * w4 in
    let w2 : ℕ = c + 256 * w3 in
    let w1 : ℕ = b + 256 * w2 in
    let w : ℕ = a + 256 * w1 in
    let q1 : w / 256 ≡ w1 = above w 1 256 a w1 refl (div-one w) la in
    let q2 : w / 65536 ≡ w2 = above w 256 65536 b w2 refl q1 lb in
    let q3 : w / 16777216 ≡ w3 = above w 65536 16777216 c w3 refl q2 lc in
    let q4 : w / 4294967296 ≡ w4 = above w 16777216 4294967296 d w4 refl q3 ld in
    let q5 : w / 1099511627776 ≡ w5 = above w 4294967296 1099511627776 e w5 refl q4 le in
    let q6 : w / 281474976710656 ≡ w6 = above w 1099511627776 281474976710656 f w6 refl q5 lf in
    let q7 : w / 72057594037927936 ≡ w7 = above w 281474976710656 72057594037927936 g w7 refl q6 lg in
    let p0 = digit w a w1 refl la in
    let p1 = digit (w / 256) b w2 q1 lb in
    let p2 = digit (w / 65536) c w3 q2 lc in
    let p3 = digit (w / 16777216) d w4 q3 ld in
    let p4 = digit (w / 4294967296) e w5 q4 le in
    let p5 = digit (w / 1099511627776) f w6 q5 lf in
    let p6 = digit (w / 281474976710656) g w7 q6 lg in
    let p7 = digit (w / 72057594037927936) h 0 q7 lh in
    (w, (λ i. p0 i ∷ p1 i ∷ p2 i ∷ p3 i ∷ p4 i ∷ p5 i ∷ p6 i ∷ p7 i ∷ []))

-- so there are words for any bytes, eight for each word
pub words_of : (n : ℕ) (xs : List ℕ) → length xs ≡ 8 * n → AllByRecursion (λ (x : ℕ). x < 256) xs → (ws : List ℕ) × (bytes_of ws ≡ xs)
unfolding bytes_of
words_of zero [] size small = ([], refl)
words_of zero (a ∷ xs) size small = absurd (omega arith)
words_of (suc n) [] size small = absurd (omega arith)
words_of (suc n) (a ∷ []) size small = absurd (omega arith)
words_of (suc n) (a ∷ b ∷ []) size small = absurd (omega arith)
words_of (suc n) (a ∷ b ∷ c ∷ []) size small = absurd (omega arith)
words_of (suc n) (a ∷ b ∷ c ∷ d ∷ []) size small = absurd (omega arith)
words_of (suc n) (a ∷ b ∷ c ∷ d ∷ e ∷ []) size small = absurd (omega arith)
words_of (suc n) (a ∷ b ∷ c ∷ d ∷ e ∷ f ∷ []) size small = absurd (omega arith)
words_of (suc n) (a ∷ b ∷ c ∷ d ∷ e ∷ f ∷ g ∷ []) size small = absurd (omega arith)
words_of (suc n) (a ∷ b ∷ c ∷ d ∷ e ∷ f ∷ g ∷ h ∷ xs) size (la, (lb, (lc, (ld, (le, (lf, (lg, (lh, rest)))))))) =
    let w = word_of a b c d e f g h la lb lc ld le lf lg lh in
    let ws = words_of n xs (omega arith) rest in
    (w.0 ∷ ws.0, ap₂ ◌++◌ w.1 ws.1)
