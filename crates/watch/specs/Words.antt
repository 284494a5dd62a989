-- How the watch's answers are printed.
use Rattle.std.specs.Prelude.{ℕ, List, ◌++◌, codes}
use Rattle.std.specs.Fmt.{decimal}
use Rattle.watch.specs.declared.cycle.Rule.{Rule}
use Rattle.watch.specs.declared.cycle.Verdict.{Verdict}
use Rattle.watch.specs.declared.cycle.Verdict.TheVariants as verdict
use Rattle.watch.specs.declared.cycle.Watch.{Watch}
use Rattle.watch.specs.declared.cycle.Watch.TheVariants as state
use Rattle.watch.specs.Rules.{number_of}

abbrev pub verdict_word : Verdict → List ℕ
verdict_word verdict.Pass = codes "pass"
verdict_word verdict.Reset = codes "reset"

abbrev pub state_word : Watch → List ℕ
state_word state.Outside = codes "outside"
state_word state.Inside = codes "inside"
state_word state.Last = codes "last"
state_word state.Reset = codes "reset"

-- A rule by its number, as W1.
abbrev pub rule_word : Rule → List ℕ
rule_word r = codes "W" ++ decimal (number_of r)
