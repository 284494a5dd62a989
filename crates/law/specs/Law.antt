-- The law of a board's lifecycle.
use Rattle.std.specs.Prelude.{◌≡◌, ℕ, suc, ◌<◌, ◌≤◌, Bool, true, false, cond, ◌⊎◌, List, [], ◌∷◌}
use Rattle.authenticator.specs.Meaning.{Meaning, padded}
use Rattle.layout.specs.Image.{version_of, nonce_of, vectors_of}
use Rattle.control.specs.Blocks.{formed, flag_block, flag_in}
use Rattle.control.specs.declared.kind.Flag.{Flag}
use Rattle.control.specs.declared.kind.Flag.TheVariants.{Finished, Unfinished}
use Rattle.planner.specs.Token.{token_of}
use Rattle.planner.specs.Confirmation.{confirmation_of}
use Rattle.store.specs.Medium.{Medium, held}
use Rattle.board.specs.declared.states.Running.{Running}
use Rattle.board.specs.declared.states.Matched.{Matched}
use Rattle.board.specs.declared.answers.Launch.{Launch}
use Rattle.board.specs.States.{Board, running, matched}
use Rattle.board.specs.declared.answers.Answer.{Answer}
use Rattle.board.specs.declared.answers.Answer.TheVariants as answer
use Rattle.board.specs.Stored.{image_in}
use Rattle.board.specs.Writes as writes
use Rattle.board.specs.Writes.{Write, was_cut}
use Rattle.board.specs.Calls.{IsScratch, IsRegister, bytes_at}
use Rattle.law.specs.History.{Call, start, stage, cycle, offer, leave, install, reset, World, Event, Life, Loaded}

-- What an offer brought: the image that lies at its first block, and its token. Other calls bring none.
pub record Match : Type 0 where
  pub image : List ℕ
  pub token : List ℕ

abbrev pub none : Match
none = record { image = []; token = [] }

abbrev pub brought : Call → Medium → Match
brought (start scratch register) m = none
brought (stage block bytes) m = none
brought (cycle c byte dma_byte scratch) m = none
brought (offer first token scratch) m = record { image = image_in m.blocks first; token = token }
brought leave m = none
brought (install scratch register) m = none
brought reset m = none

abbrev pub is_match : Answer → Bool
is_match answer.Done = false
is_match (answer.Runs _) = false
is_match (answer.Confirmed _) = false
is_match answer.Passes = false
is_match answer.Resets = false
is_match answer.Matches = true
is_match (answer.Refused _) = false
is_match (answer.Supply _) = false
is_match (answer.NotLoaded _) = false

-- The last matching offer.
abbrev pub offered : {a : Meaning} → List (Event a) → Match
offered [] = none
offered (e ∷ h) = cond (is_match e.outcome.answer) (brought e.call e.outcome.store) (offered h)

-- An install takes effect when its second write is done, or is cut and leaves the flag reading unfinished.
abbrev pub unfinished : Flag → Bool
unfinished Finished = false
unfinished Unfinished = true

abbrev pub second_took : List Write → Bool
second_took [] = false
second_took (w ∷ []) = false
second_took (w ∷ writes.done b x ∷ ws) = true
second_took (w ∷ writes.cut b x y ∷ ws) = unfinished (flag_in y)

abbrev pub took_effect : Call → List Write → Bool
took_effect (start scratch register) ws = false
took_effect (stage block bytes) ws = false
took_effect (cycle c byte dma_byte scratch) ws = false
took_effect (offer first token scratch) ws = false
took_effect leave ws = false
took_effect (install scratch register) ws = second_took ws
took_effect reset ws = false

abbrev pub effective : {a : Meaning} → Event a → Bool
effective e = took_effect e.call e.outcome.writes

-- The image of the last install that took effect, else the factory's. An install's image is that of the last match.
abbrev pub current : {a : Meaning} → List ℕ → List (Event a) → List ℕ
current factory [] = factory
current factory (e ∷ h) = cond (effective e) (offered h).image (current factory h)

-- How many installs took effect, and how many confirmations count for the last of them.
abbrev pub installs : {a : Meaning} → List (Event a) → ℕ
installs [] = 0
installs (e ∷ h) = cond (effective e) (suc (installs h)) (installs h)

abbrev pub counted : Answer → ℕ → ℕ
counted answer.Done n = n
counted (answer.Runs _) n = n
counted (answer.Confirmed _) n = suc n
counted answer.Passes n = n
counted answer.Resets n = n
counted answer.Matches n = n
counted (answer.Refused _) n = n
counted (answer.Supply _) n = n
counted (answer.NotLoaded _) n = n

abbrev pub confirmations : {a : Meaning} → List (Event a) → ℕ
confirmations [] = 0
confirmations (e ∷ h) = counted e.outcome.answer (cond (effective e) 0 (confirmations h))

-- The write of flag 0 ends an install: it is among the writes, and done.
abbrev pub Done : ℕ → List ℕ → List Write → Type 0
Done b x [] = ⊥
Done b x (writes.done c y ∷ ws) = ((c ≡ b) × (y ≡ x)) ⊎ Done b x ws
Done b x (writes.cut c y left ∷ ws) = Done b x ws

abbrev pub Ends : {a : Meaning} → Event a → Type 0
Ends e = Done 2 (flag_block Finished) e.outcome.writes

abbrev pub Confirms : {a : Meaning} → Event a → Type 0
Confirms e = (launch : Launch) × (e.outcome.answer ≡ answer.Confirmed launch)

-- A running or matched board, and the state of the image that it runs.
abbrev pub On : Board → Running → Type 0
On board r = (board ≡ running r) ⊎ ((b : Matched) × (board ≡ matched b) × (b.running ≡ r))

-- The image that runs: its bytes, its version, and its vectors in block 1.
pub record Runs (m : Medium) (r : Running) (image : List ℕ) : Type 0 where
  pub bytes : bytes_at m r ≡ image
  pub version_is : r.version ≡ version_of image
  pub vectors_stand : held m 1 ≡ formed (vectors_of image)

-- What the event e keeps, after the events h.
pub record Kept (a : Meaning) (key : a.Key) (factory : List ℕ) (e : Event a) (h : List (Event a)) : Type 0 where
  -- The board runs the image of the last install that took effect, else the factory's.
  pub right_image : (r : Running) → On e.outcome.board r → Runs e.outcome.store r (current factory (e ∷ h))
  -- A start with right buffers that is not cut runs.
  pub starts : (scratch register : List ℕ) → e.call ≡ start scratch register → IsScratch scratch → IsRegister register →
      was_cut e.outcome.writes ≡ false → (r : Running) × (e.outcome.board ≡ running r)
  -- An install that takes effect has a higher version than the last that did, else than the factory's.
  pub higher : effective e ≡ true → version_of (current factory h) < version_of (offered h).image
  -- Its token was the tag of byte 0 and its image's bytes.
  pub authentic : effective e ≡ true → (offered h).token ≡ token_of a key (offered h).image
  -- A confirmation is written exactly when the write that ends an install is done.
  pub only_ended : Confirms e → Ends e
  pub always_ended : Ends e → Confirms e
  -- It is the tag of byte 1, version and nonce of the image then running.
  pub of_running : Confirms e →
      (r : Running) × (e.outcome.board ≡ running r)
      × (e.register ≡ padded (confirmation_of a key (version_of (bytes_at e.outcome.store r)) (nonce_of (bytes_at e.outcome.store r))))
  -- No install gives two, and the factory's image none.
  pub at_most_one : confirmations (e ∷ h) ≤ 1
  pub none_for_factory : installs (e ∷ h) ≡ 0 → confirmations (e ∷ h) ≡ 0

-- The law: in every working life, which begins as an accepted load of the factory's image leaves board and store, each
-- event keeps it. Every beginning of a life is one, so it holds after each call.
abbrev pub Law : (a : Meaning) → a.Key → Type 0
Law a key =
    (factory : List ℕ) (w : World a) → Loaded factory w → (e : Event a) (h : List (Event a)) → Life a key w (e ∷ h) →
    Kept a key factory e h
