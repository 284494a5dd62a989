-- The rounds, one after the other.
use Rattle.std.proofs.Common.{◌≡◌, ℕ, suc, ◌+◌, ◌-◌, ◌≤◌, List, refl, ap, ◌∙◌, arith}
use Rattle.aes.specs.Cipher.{sub_bytes, shift_rows, mix_columns, add_round_key, rounded, rounds, encrypted}

-- one round more, round n
pub rounds-more : (n : ℕ) (w from s mixed next : List ℕ) → 1 ≤ n → s ≡ rounds (n - 1) w from → mixed ≡ mix_columns (shift_rows (sub_bytes s))
    → next ≡ add_round_key mixed w n → next ≡ rounds ((n + 1) - 1) w from
unfolding rounds rounded
rounds-more n w from s mixed next le inv e f =
    let some : n ≡ suc (n - 1) = omega arith in
    let more : suc (n - 1) ≡ (n + 1) - 1 = omega arith in
    f ∙ rw (e, inv) (ap (λ k. add_round_key (mix_columns (shift_rows (sub_bytes (rounds (n - 1) w from)))) w k) some ∙ ap (λ k. rounds k w from) more)

-- the block that goes in and the one that comes out
pub rounds-all : (n : ℕ) (w block first from s last added out : List ℕ) → n ≡ 9 → first ≡ block → from ≡ add_round_key first w 0 → s ≡ rounds n w from
    → last ≡ shift_rows (sub_bytes s) → added ≡ add_round_key last w 10 → out ≡ added → out ≡ encrypted w block
unfolding encrypted
rounds-all n w block first from s last added out nine b e inv f g h = h ∙ g ∙ rw (f, inv, nine, e, b) refl
