-- What an offer answers, test by test.
use Rattle.std.proofs.Common.{◌≡◌, ℕ, ◌≤◌, true, false, ◌⊎◌, sym, refl, ap, ◌∙◌, inl, inr, arith}
use Rattle.refusal.specs.declared.Refusal.TheVariants as refusal
use Rattle.authenticator.specs.Meaning.{Meaning}
use Rattle.layout.specs.Placing.{Open, GoesPast, Share, Newer}
use Rattle.store.specs.Medium.{Medium}
use Rattle.board.specs.declared.states.Running.{Running}
use Rattle.board.specs.Tests.{Outcome}
use Rattle.board.specs.Calls.{count_of}
use Rattle.offer_edges.specs.Edges.{Offering, said, version, Answered, Refused, PastVersion, PastBlocks, PastLength}

-- A test that holds is passed, and one that does not decides.
passed : {P A B : Type 0} → P → ((P → ⊥) × A) ⊎ (P × B) → B
passed p (inl h) = absurd (h.0 p)
passed p (inr h) = h.1

failed : {P B : Type 0} (o q : Outcome) → (P → ⊥) → ((P → ⊥) × (o ≡ q)) ⊎ (P × B) → o.answer ≡ q.answer
failed o q fails (inl h) = ap (λ (x : Outcome). x.answer) h.1
failed o q fails (inr h) = absurd (fails h.0)

-- One that is not known goes either way.
either : {P B : Type 0} (o q : Outcome) → ((P → ⊥) × (o ≡ q)) ⊎ (P × B) → (o.answer ≡ q.answer) ⊎ B
either o q (inl h) = inl (ap (λ (x : Outcome). x.answer) h.1)
either o q (inr h) = inr h.1

-- A live store reads.
read : {A B : Type 0} (m : Medium) → m.live ≡ true → ((m.live ≡ false) × A) ⊎ ((m.live ≡ true) × B) → B
read m live (inl h) = let e : true ≡ false = sym live ∙ h.0 in let z : ◌≡◌ {A = ℕ} 0 1 = cc in absurd (omega arith)
read m live (inr h) = h.1

then : {A B C : Type 0} → (B → C) → A ⊎ B → A ⊎ C
then f (inl h) = inl h
then f (inr h) = inr (f h)

module _ (a : Meaning) (key : a.Key) (r : Running) (first : ℕ) (x : Offering a first) where
  pub out_of_range : (Open 8 first → ⊥) → Refused a key r first x refusal.BlockRange
  out_of_range shut = (
    (_, _, record { outcome = inr (x.right_scratch, inl (closed, refl)); scratch_left = refl; state_left = refl }),
    λ o s t h. failed o _ closed (passed x.right_scratch h.outcome),
  )
    where
      closed : Open (count_of x.store) first → ⊥
      closed h = shut (h.0, omega (arith, h.1, x.eight))

  module _ (range : Open 8 first) where
    ready : Open (count_of x.store) first
    ready = (range.0, omega (arith, range.1, x.eight))

    pub bad_image : ((46 ≤ said x) × (GoesPast 8 first (said x) → ⊥) → ⊥) → Refused a key r first x refusal.BadImage
    bad_image wrong = (
      (
        _,
        _,
        record {
          outcome = inr (x.right_scratch, inr (ready, inr (x.right_token, inr (x.live, inl (bad, refl)))));
          scratch_left = refl;
          state_left = refl;
        },
      ),
      λ o s t h. failed o _ bad (read x.store x.live (passed x.right_token (passed ready (passed x.right_scratch h.outcome)))),
    )
      where
        bad : (46 ≤ said x) × (GoesPast (count_of x.store) first (said x) → ⊥) → ⊥
        bad h = wrong (h.0, λ past. h.1 (omega (arith, past, x.eight)))

    module _ (long : 46 ≤ said x) (inside : GoesPast 8 first (said x) → ⊥) where
      good : (46 ≤ said x) × (GoesPast (count_of x.store) first (said x) → ⊥)
      good = (long, λ past. inside (omega (arith, past, x.eight)))

      pub past_length : Answered a key r first x PastLength
      past_length o s t h =
          let tested = passed good (read x.store x.live (passed x.right_token (passed ready (passed x.right_scratch h.outcome)))) in
          then (λ b. then (λ v. then (λ m. ap (λ (q : Outcome). q.answer) m.2) (either o _ v)) (either o _ b)) (either o _ tested)

      pub running_block : Share first (said x) r.place.first r.place.len → Refused a key r first x refusal.RunningBlock
      running_block share = (
        (
          _,
          _,
          record {
            outcome = inr (x.right_scratch, inr (ready, inr (x.right_token, inr (x.live, inr (good, inl ((λ apart. apart share), refl))))));
            scratch_left = refl;
            state_left = refl;
          },
        ),
        λ o s t h.
            failed o _ (λ apart. apart share)
            (passed good (read x.store x.live (passed x.right_token (passed ready (passed x.right_scratch h.outcome))))),
      )

      module _ (apart : Share first (said x) r.place.first r.place.len → ⊥) where
        pub past_blocks : Answered a key r first x PastBlocks
        past_blocks o s t h =
            let tested = passed apart (passed good (read x.store x.live (passed x.right_token (passed ready (passed x.right_scratch h.outcome))))) in
            then (λ v. then (λ m. ap (λ (q : Outcome). q.answer) m.2) (either o _ v)) (either o _ tested)

        pub not_newer : (Newer (version x) r.version → ⊥) → Refused a key r first x refusal.NotNewer
        not_newer old = (
          (
            _,
            _,
            record {
              outcome = inr (x.right_scratch, inr (ready, inr (x.right_token, inr (x.live, inr (good, inr (apart, inl (old, refl)))))));
              scratch_left = refl;
              state_left = refl;
            },
          ),
          λ o s t h.
              failed o _ old
              (passed apart (passed good (read x.store x.live (passed x.right_token (passed ready (passed x.right_scratch h.outcome)))))),
        )

        pub past_version : Newer (version x) r.version → Answered a key r first x PastVersion
        past_version newer o s t h =
            let tested = passed newer (passed apart (passed good (read x.store x.live (passed x.right_token (passed ready (passed x.right_scratch h.outcome)))))) in
            then (λ m. ap (λ (q : Outcome). q.answer) m.2) (either o _ tested)
