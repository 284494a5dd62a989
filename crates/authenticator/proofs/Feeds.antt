-- How the feeder's two steps, making room and gathering, take in a part: over any width and any block algorithm.
use Rattle.std.proofs.Common.{◌≡◌, ℕ, ◌+◌, ◌<◌, ◌≤◌, List, [], ◌∷◌, ◌++◌, length, take, drop, sym, ap, ◌∙◌, ⊎_elim, arith, length-append}
use Rattle.std.proofs.lemmas.List.{append-nil, append_assoc, take-append-drop, length-take-le}
use Rattle.std.proofs.lemmas.Bool.{eq-eqb, ne_eqb, cond-true, cond-false, cases_eq}
use Rattle.authenticator.specs.Feeding.{Held, roomed, byte, bytes, bytes_joined}

module _ {V : Type 0} (w : ℕ) (step : V → List ℕ → V) where
  pub roomed_full : (h : Held V) → length h.waiting ≡ w → roomed w step h ≡ record { value = step h.value h.waiting; waiting = [] }
  roomed_full h e = cond-true _ _ _ (eq-eqb (length h.waiting) w e)

  pub roomed_free : (h : Held V) → (length h.waiting ≡ w → ⊥) → roomed w step h ≡ h
  roomed_free h ne = cond-false _ _ _ (ne_eqb (length h.waiting) w ne)

  pub byte_full : (v : V) (ws : List ℕ) (b : ℕ) → length ws ≡ w → byte w step (record { value = v; waiting = ws }) b ≡ record { value = step v ws; waiting = b ∷ [] }
  byte_full v ws b e =
      ap (λ r. record { value = r.value; waiting = r.waiting ++ (b ∷ []) }) (roomed_full (record { value = v; waiting = ws }) e)

  pub byte_free : (v : V) (ws : List ℕ) (b : ℕ) → (length ws ≡ w → ⊥) → byte w step (record { value = v; waiting = ws }) b ≡ record { value = v; waiting = ws ++ (b ∷ []) }
  byte_free v ws b ne =
      ap (λ r. record { value = r.value; waiting = r.waiting ++ (b ∷ []) }) (roomed_free (record { value = v; waiting = ws }) ne)

  -- room that was made already is not made again
  pub byte_roomed : (h : Held V) (b : ℕ) → 0 < w → byte w step (roomed w step h) b ≡ byte w step h b
  byte_roomed h b some =
      ⊎_elim
      (λ e.
      let full : roomed w step h ≡ record { value = step h.value h.waiting; waiting = [] } = roomed_full h e in
      ap (λ r. byte w step r b) full ∙ byte_free (step h.value h.waiting) [] b (λ z. omega arith) ∙ sym (byte_full h.value h.waiting b e))
      (λ ne. ap (λ r. byte w step r b) (roomed_free h ne))
      (cases_eq (length h.waiting) w)

  pub bytes_roomed : (h : Held V) (xs : List ℕ) → 0 < w → 0 < length xs → bytes w step (roomed w step h) xs ≡ bytes w step h xs
  bytes_roomed h [] some none = let z : ⊥ = omega arith in elim z [ ]
  bytes_roomed h (b ∷ xs) some more = ap (λ r. bytes w step r xs) (byte_roomed h b some)

  -- as long as they fit the block, bytes only join those that wait
  pub gathered : (v : V) (ws xs : List ℕ) → length ws + length xs ≤ w → bytes w step (record { value = v; waiting = ws }) xs ≡ record { value = v; waiting = ws ++ xs }
  gathered v ws [] le = ap (λ l. record { value = v; waiting = l }) (sym (append-nil ws))
  gathered v ws (b ∷ xs) le =
      let long : length (ws ++ (b ∷ [])) ≡ length ws + 1 = length-append ws (b ∷ []) in
      ap (λ h. bytes w step h xs) (byte_free v ws b (λ e. omega arith))
      ∙ gathered v (ws ++ (b ∷ [])) xs (omega arith)
      ∙ ap (λ l. record { value = v; waiting = l }) (append_assoc ws (b ∷ []) xs)

-- a turn of the feeding loop: room is made in h, which leaves v and ws, then the first n bytes of xs are gathered
pub turn : {V : Type 0} (w : ℕ) (step : V → List ℕ → V) (h : Held V) (v v' : V) (ws ws' xs xs' : List ℕ) (n : ℕ)
    → 0 < w → 0 < length xs → length ws + n ≤ w → n ≤ length xs
    → record { value = v; waiting = ws } ≡ roomed w step h → v' ≡ v → ws' ≡ ws ++ take n xs → xs' ≡ drop n xs
    → bytes w step (record { value = v'; waiting = ws' }) xs' ≡ bytes w step h xs
turn {V} w step h v v' ws ws' xs xs' n some more room enough er ev ew ex =
    let r : Held V = record { value = v; waiting = ws } in
    let long : length (take n xs) ≡ n = length-take-le n xs enough in
    let g : bytes w step r (take n xs) ≡ record { value = v; waiting = ws ++ take n xs } = gathered w step v ws (take n xs) (omega arith) in
    rw (ev, ew, ex, ← g, bytes_joined w step r (take n xs) (drop n xs), take-append-drop n xs, er) (bytes_roomed w step h xs some more)
