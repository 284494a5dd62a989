-- Words as bytes.
use Rattle.std.proofs.Common.{◌≡◌, ℕ, ◌+◌, ◌*◌, ◌/◌, ◌%◌, ◌<◌, List, [], ◌∷◌, ◌++◌, length, get_or, take, sym, refl, ap, ◌∙◌, ap₂, arith}
use Rattle.std.specs.List.{flat_map}
use Rattle.std.specs.Simd.{first_chunks}
use Rattle.std.proofs.lemmas.List.FromFn.{fill_by_all}
use Rattle.board.specs.States.{bytes_of, eight}

-- the bytes of four words, one after the other
pub four_words : (vs : List ℕ) (words : List (List ℕ)) (bytes all : List ℕ) → length vs ≡ 4 → length words ≡ 4
    → get_or words 0 [] ≡ eight (get_or vs 0 0) → get_or words 1 [] ≡ eight (get_or vs 1 0)
    → get_or words 2 [] ≡ eight (get_or vs 2 0) → get_or words 3 [] ≡ eight (get_or vs 3 0)
    → all ≡ flat_map (λ (w : List ℕ). w) words → bytes ≡ take 32 all → bytes ≡ bytes_of vs
unfolding bytes_of
four_words vs words bytes all four many e0 e1 e2 e3 is front =
    let each : vs ≡ get_or vs 0 0 ∷ get_or vs 1 0 ∷ get_or vs 2 0 ∷ get_or vs 3 0 ∷ [] = fill_by_all (λ k. get_or vs k 0) vs 4 0 four (λ k _. refl) in
    let split : words ≡ get_or words 0 [] ∷ get_or words 1 [] ∷ get_or words 2 [] ∷ get_or words 3 [] ∷ [] =
    fill_by_all (λ k. get_or words k []) words 4 [] many (λ k _. refl) in
    let parts : words ≡ eight (get_or vs 0 0) ∷ eight (get_or vs 1 0) ∷ eight (get_or vs 2 0) ∷ eight (get_or vs 3 0) ∷ [] =
    split ∙ (ap₂ (λ (a b : List ℕ). a ∷ b ∷ get_or words 2 [] ∷ get_or words 3 [] ∷ []) e0 e1
    ∙ ap₂ (λ (a b : List ℕ). eight (get_or vs 0 0) ∷ eight (get_or vs 1 0) ∷ a ∷ b ∷ []) e2 e3) in
    front ∙ (ap (take 32) (is ∙ ap (flat_map (λ (w : List ℕ). w)) parts) ∙ sym (ap bytes_of each))

-- eight bytes at a place
abbrev pub octet : List ℕ → ℕ → List ℕ
octet xs at =
    get_or xs at 0 ∷ get_or xs (at + 1) 0 ∷ get_or xs (at + 2) 0 ∷ get_or xs (at + 3) 0 ∷ get_or xs (at + 4) 0 ∷ get_or xs (at + 5) 0
    ∷ get_or xs (at + 6) 0 ∷ get_or xs (at + 7) 0 ∷ []

-- the word of eight bytes
abbrev pub value : List ℕ → ℕ
value b =
    get_or b 0 0 + get_or b 1 0 * 256 + get_or b 2 0 * 65536 + get_or b 3 0 * 16777216 + get_or b 4 0 * 4294967296
    + get_or b 5 0 * 1099511627776 + get_or b 6 0 * 281474976710656 + get_or b 7 0 * 72057594037927936

eight_back : (w a b c d e f g h : ℕ) → a < 256 → b < 256 → c < 256 → d < 256 → e < 256 → f < 256 → g < 256 → h < 256
    → w ≡ a + b * 256 + c * 65536 + d * 16777216 + e * 4294967296 + f * 1099511627776 + g * 281474976710656 + h * 72057594037927936
    → eight w ≡ a ∷ b ∷ c ∷ d ∷ e ∷ f ∷ g ∷ h ∷ []
eight_back w a b c d e f g h la lb lc ld le lf lg lh is =
    let pa : w % 256 ≡ a = omega arith in
    let pb : w / 256 % 256 ≡ b = omega arith in
    let pc : w / 65536 % 256 ≡ c = omega arith in
    let pd : w / 16777216 % 256 ≡ d = omega arith in
    let pe : w / 4294967296 % 256 ≡ e = omega arith in
    let pf : w / 1099511627776 % 256 ≡ f = omega arith in
    let pg : w / 281474976710656 % 256 ≡ g = omega arith in
    let ph : w / 72057594037927936 % 256 ≡ h = omega arith in
    rw (pa, pb, pc, pd, pe, pf, pg, ph) refl

octet_back : (xs : List ℕ) (at w : ℕ) → ((i : ℕ) → get_or xs i 0 < 256) → w ≡ value (octet xs at) → eight w ≡ octet xs at
octet_back xs at w small is =
    eight_back w (get_or xs at 0) (get_or xs (at + 1) 0) (get_or xs (at + 2) 0) (get_or xs (at + 3) 0) (get_or xs (at + 4) 0) (get_or xs (at + 5) 0)
    (get_or xs (at + 6) 0) (get_or xs (at + 7) 0) (small at) (small (at + 1)) (small (at + 2)) (small (at + 3)) (small (at + 4)) (small (at + 5))
    (small (at + 6)) (small (at + 7)) is

-- 32 bytes read as four words
pub words_back : (xs ws : List ℕ) (chunks : List (List ℕ)) → length xs ≡ 32 → length ws ≡ 4 → ((i : ℕ) → get_or xs i 0 < 256)
    → chunks ≡ first_chunks 8 (length xs / 8) xs
    → get_or ws 0 0 ≡ value (get_or chunks 0 []) → get_or ws 1 0 ≡ value (get_or chunks 1 [])
    → get_or ws 2 0 ≡ value (get_or chunks 2 []) → get_or ws 3 0 ≡ value (get_or chunks 3 []) → bytes_of ws ≡ xs
unfolding bytes_of
words_back xs ws chunks long four small is e0 e1 e2 e3 =
    let all : xs ≡ octet xs 0 ++ (octet xs 8 ++ (octet xs 16 ++ (octet xs 24 ++ []))) = fill_by_all (λ k. get_or xs k 0) xs 32 0 long (λ k _. refl) in
    let each : ws ≡ get_or ws 0 0 ∷ get_or ws 1 0 ∷ get_or ws 2 0 ∷ get_or ws 3 0 ∷ [] = fill_by_all (λ k. get_or ws k 0) ws 4 0 four (λ k _. refl) in
    let count : length xs / 8 ≡ 4 = omega arith in
    let cut : chunks ≡ octet xs 0 ∷ octet xs 8 ∷ octet xs 16 ∷ octet xs 24 ∷ [] = is ∙ ap₂ (first_chunks 8) count all in
    let p0 : eight (get_or ws 0 0) ≡ octet xs 0 = octet_back xs 0 (get_or ws 0 0) small (e0 ∙ ap (λ (c : List (List ℕ)). value (get_or c 0 [])) cut) in
    let p1 : eight (get_or ws 1 0) ≡ octet xs 8 = octet_back xs 8 (get_or ws 1 0) small (e1 ∙ ap (λ (c : List (List ℕ)). value (get_or c 1 [])) cut) in
    let p2 : eight (get_or ws 2 0) ≡ octet xs 16 = octet_back xs 16 (get_or ws 2 0) small (e2 ∙ ap (λ (c : List (List ℕ)). value (get_or c 2 [])) cut) in
    let p3 : eight (get_or ws 3 0) ≡ octet xs 24 = octet_back xs 24 (get_or ws 3 0) small (e3 ∙ ap (λ (c : List (List ℕ)). value (get_or c 3 [])) cut) in
    ap bytes_of each
    ∙ (ap₂ (λ (s t : List ℕ). s ++ (t ++ (eight (get_or ws 2 0) ++ (eight (get_or ws 3 0) ++ [])))) p0 p1
    ∙ (ap₂ (λ (s t : List ℕ). octet xs 0 ++ (octet xs 8 ++ (s ++ (t ++ [])))) p2 p3 ∙ sym all))
