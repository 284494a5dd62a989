-- What an answer leaves of the lent buffers and of the authenticator.
use Rattle.std.specs.Prelude.{ℕ, cond, List, length, replicate, ◌==◌}
use Rattle.refusal.specs.declared.Refusal.{Refusal}
use Rattle.refusal.specs.Numbers.{number_of}
use Rattle.authenticator.specs.Meaning.{padded}
use Rattle.board.specs.declared.answers.Answer.{Answer}
use Rattle.board.specs.declared.answers.Answer.TheVariants.{Done, Runs, Confirmed, Passes, Resets, Matches, Refused, Supply, NotLoaded}

-- Zeros in the place of a buffer's bytes.
unfoldable pub cleared : List ℕ → List ℕ
cleared buffer = replicate (length buffer) 0

-- After refusal 2 buffers are as they were; after every other refusal they are zeros.
abbrev pub dropped : Refusal → List ℕ → List ℕ
dropped refusal buffer = cond (number_of refusal == 2) buffer (cleared buffer)

-- The scratch buffer after an answer.
abbrev pub swept : Answer → List ℕ → List ℕ
swept Done scratch = cleared scratch
swept (Runs _) scratch = cleared scratch
swept (Confirmed _) scratch = cleared scratch
swept Passes scratch = cleared scratch
swept Resets scratch = cleared scratch
swept Matches scratch = cleared scratch
swept (Refused refusal) scratch = dropped refusal scratch
swept (Supply _) scratch = cleared scratch
swept (NotLoaded _) scratch = cleared scratch

-- The register after an answer: zeros, unless this confirmation was written.
abbrev pub shown : List ℕ → Answer → List ℕ → List ℕ
shown confirmation Done register = cleared register
shown confirmation (Runs _) register = cleared register
shown confirmation (Confirmed _) register = padded confirmation
shown confirmation Passes register = cleared register
shown confirmation Resets register = cleared register
shown confirmation Matches register = cleared register
shown confirmation (Refused refusal) register = dropped refusal register
shown confirmation (Supply _) register = cleared register
shown confirmation (NotLoaded _) register = cleared register

-- The authenticator's state after an answer: its beginning where a tag was made, which is for a confirmation, a match
-- and a token that is not the tag (6); else as it was.
abbrev pub settled : {State : Type 0} → State → Answer → State → State
settled begin Done state = state
settled begin (Runs _) state = state
settled begin (Confirmed _) state = begin
settled begin Passes state = state
settled begin Resets state = state
settled begin Matches state = begin
settled begin (Refused refusal) state = cond (number_of refusal == 6) begin state
settled begin (Supply _) state = state
settled begin (NotLoaded _) state = state
