-- What came of a call, from what it returned and from the writes that it made.
use Rattle.std.specs.Prelude.{cond, List, Ok, Err, Result}
use Rattle.store.specs.Medium.{Medium}
use Rattle.board.specs.declared.states.Cold.{Cold}
use Rattle.board.specs.declared.states.Running.{Running}
use Rattle.board.specs.declared.states.Matched.{Matched}
use Rattle.board.specs.declared.answers.Answer.{Answer}
use Rattle.board.specs.declared.answers.Answer.TheVariants as answer
use Rattle.board.specs.declared.results.Denied.{Denied}
use Rattle.board.specs.declared.results.Denied.TheVariants as denied
use Rattle.board.specs.declared.results.Cycled.{Cycled}
use Rattle.board.specs.declared.results.Cycled.TheVariants.{Passed, Reset}
use Rattle.board.specs.declared.results.Installed.{Installed}
use Rattle.board.specs.declared.results.Started.{Started}
use Rattle.board.specs.declared.results.Unstarted.{Unstarted}
use Rattle.board.specs.declared.results.Unstarted.TheVariants as unstarted
use Rattle.board.specs.States.{Board, cold, running, matched}
use Rattle.board.specs.Tests.{Outcome}
use Rattle.board.specs.Writes.{Write}

abbrev pub outcome : List Write → Answer → Board → Medium → Outcome
outcome ws said board m = record { writes = ws; answer = said; board = board; store = m }

abbrev pub loaded : List Write → Result Cold (Denied Cold) → Medium → Outcome
loaded ws (Ok c) m = outcome ws answer.Done cold m
loaded ws (Err (denied.Refused c refusal)) m = outcome ws (answer.Refused refusal) cold m
loaded ws (Err (denied.Supply c s)) m = outcome ws (answer.Supply s) cold m

abbrev pub staged : List Write → Result Running (Denied Running) → Medium → Outcome
staged ws (Ok r) m = outcome ws answer.Done (running r) m
staged ws (Err (denied.Refused r refusal)) m = outcome ws (answer.Refused refusal) (running r) m
staged ws (Err (denied.Supply c s)) m = outcome ws (answer.Supply s) cold m

abbrev pub installed : List Write → Result Installed (Denied Matched) → Medium → Outcome
installed ws (Ok i) m = outcome ws (answer.Confirmed i.launch) (running i.running) m
installed ws (Err (denied.Refused b refusal)) m = outcome ws (answer.Refused refusal) (matched b) m
installed ws (Err (denied.Supply c s)) m = outcome ws (answer.Supply s) cold m

abbrev pub started : List Write → Result Started Unstarted → Medium → Outcome
started ws (Ok s) m =
    outcome ws (cond s.confirmed (answer.Confirmed s.launch) (answer.Runs s.launch)) (running s.running) m
started ws (Err (unstarted.Refused c refusal)) m = outcome ws (answer.Refused refusal) cold m
started ws (Err (unstarted.Supply c s)) m = outcome ws (answer.Supply s) cold m
started ws (Err (unstarted.NotLoaded c block)) m = outcome ws (answer.NotLoaded block) cold m

abbrev pub cycled : List Write → Result Cycled (Denied Running) → Medium → Outcome
cycled ws (Ok (Passed r)) m = outcome ws answer.Passes (running r) m
cycled ws (Ok (Reset c)) m = outcome ws answer.Resets cold m
cycled ws (Err (denied.Refused r refusal)) m = outcome ws (answer.Refused refusal) (running r) m
cycled ws (Err (denied.Supply c s)) m = outcome ws (answer.Supply s) cold m

abbrev pub offered : List Write → Result Matched (Denied Running) → Medium → Outcome
offered ws (Ok b) m = outcome ws answer.Matches (matched b) m
offered ws (Err (denied.Refused r refusal)) m = outcome ws (answer.Refused refusal) (running r) m
offered ws (Err (denied.Supply c s)) m = outcome ws (answer.Supply s) cold m
