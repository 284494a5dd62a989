-- A message fed byte by byte, seen as a whole: the blocks ahead of its last one, and what is left of it.
use Rattle.std.proofs.Common.{◌≡◌, ℕ, suc, ◌+◌, ◌-◌, ◌*◌, ◌/◌, ◌<◌, ◌≤◌, List, [], ◌∷◌, ◌++◌, length, take, drop, sym, ap, ◌∙◌, ⊎_elim, add_comm, mul-zero, mul-suc, add-one, arith, length-append}
use native.Mathlib.Nat.{div-eq_of_lt, add-div_left}
use Rattle.std.proofs.lemmas.List.{append-nil, append_assoc, take-append-le, take_all, drop-append-le, drop_all, drop-drop}
use Rattle.std.proofs.lemmas.Bool.{cases_eq}
use Rattle.authenticator.specs.Feeding.{Held, bytes, stepped}
use Rattle.authenticator.proofs.Feeds.{byte_full, byte_free}

-- how many blocks of a message of n bytes are followed by a byte
abbrev pub ahead : ℕ → ℕ → ℕ
ahead w n = (n - 1) / w

module _ {V : Type 0} (w : ℕ) (step : V → List ℕ → V) (some : 0 < w) where
  abbrev pub seen : V → List ℕ → Held V
  seen v message =
      record { value = stepped w step (ahead w (length message)) v message; waiting = drop (w * ahead w (length message)) message }

  -- no more than a block: nothing was worked on
  seen-short : (v : V) (ws : List ℕ) → length ws ≤ w → seen v ws ≡ record { value = v; waiting = ws }
  seen-short v ws le =
      let none : ahead w (length ws) ≡ 0 = div-eq_of_lt (omega arith) in
      ap (λ n. record { value = stepped w step n v ws; waiting = drop (w * n) ws }) none
      ∙ ap (λ n. record { value = v; waiting = drop n ws }) (mul-zero w)

  -- a block with a byte behind it was worked on
  seen-block : (v : V) (ws : List ℕ) (b : ℕ) (xs : List ℕ) → length ws ≡ w → seen v (ws ++ (b ∷ xs)) ≡ seen (step v ws) (b ∷ xs)
  seen-block v ws b xs e =
      let all = ws ++ (b ∷ xs) in
      let n = ahead w (length (b ∷ xs)) in
      let long : length all ≡ length ws + length (b ∷ xs) = length-append ws (b ∷ xs) in
      let same : length all - 1 ≡ w + (length (b ∷ xs) - 1) = omega arith in
      let more : ahead w (length all) ≡ suc n = ap (λ q. q / w) same ∙ add-div_left (length (b ∷ xs) - 1) some ∙ add-one n in
      let front : take w all ≡ ws = take-append-le w ws (b ∷ xs) (omega arith) ∙ take_all w ws (omega arith) in
      let back : drop w all ≡ b ∷ xs = drop-append-le w ws (b ∷ xs) (omega arith) ∙ ap (λ q. q ++ (b ∷ xs)) (drop_all w ws (omega arith)) in
      let next : w * suc n ≡ w + w * n = mul-suc w n ∙ add_comm (w * n) w in
      ap (λ q. record { value = stepped w step q v all; waiting = drop (w * q) all }) more
      ∙ ap (λ q. record { value = stepped w step n (step v (take w all)) (drop w all); waiting = drop q all }) next
      ∙ ap (λ q. record { value = stepped w step n (step v (take w all)) (drop w all); waiting = q }) (sym (drop-drop (w * n) w all))
      ∙ ap (λ q. record { value = stepped w step n (step v q) (drop w all); waiting = drop (w * n) (drop w all) }) front
      ∙ ap (λ q. record { value = stepped w step n (step v ws) q; waiting = drop (w * n) q }) back

  pub bytes_seen : (v : V) (ws xs : List ℕ) → length ws ≤ w → bytes w step (record { value = v; waiting = ws }) xs ≡ seen v (ws ++ xs)
  bytes_seen v ws [] le = sym (seen-short v ws le) ∙ ap (seen v) (sym (append-nil ws))
  bytes_seen v ws (b ∷ xs) le =
      ⊎_elim
      (λ e.
      ap (λ h. bytes w step h xs) (byte_full w step v ws b e)
      ∙ bytes_seen (step v ws) (b ∷ []) xs (omega arith)
      ∙ sym (seen-block v ws b xs e))
      (λ ne.
      let long : length (ws ++ (b ∷ [])) ≡ length ws + 1 = length-append ws (b ∷ []) in
      ap (λ h. bytes w step h xs) (byte_free w step v ws b ne)
      ∙ bytes_seen v (ws ++ (b ∷ [])) xs (omega arith)
      ∙ ap (seen v) (append_assoc ws (b ∷ []) xs))
      (cases_eq (length ws) w)
