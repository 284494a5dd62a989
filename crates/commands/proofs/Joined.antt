-- A text that grew piece by piece.
use Rattle.std.proofs.Common.{◌≡◌, ℕ, List, ◌++◌, ◌∙◌, append_assoc}

pub eight_pieces : (t₀ t₁ t₂ t₃ t₄ t₅ t₆ t₇ t₈ front a b c d e f g h : List ℕ) → t₀ ≡ front → t₁ ≡ t₀ ++ a → t₂ ≡ t₁ ++ b
    → t₃ ≡ t₂ ++ c → t₄ ≡ t₃ ++ d → t₅ ≡ t₄ ++ e → t₆ ≡ t₅ ++ f → t₇ ≡ t₆ ++ g → t₈ ≡ t₇ ++ h
    → t₈ ≡ front ++ (a ++ (b ++ (c ++ (d ++ (e ++ (f ++ (g ++ h)))))))
eight_pieces t₀ t₁ t₂ t₃ t₄ t₅ t₆ t₇ t₈ front a b c d e f g h e₀ e₁ e₂ e₃ e₄ e₅ e₆ e₇ e₈ =
    let all : t₈ ≡ (((((((front ++ a) ++ b) ++ c) ++ d) ++ e) ++ f) ++ g) ++ h = cc in all ∙ simp append_assoc
