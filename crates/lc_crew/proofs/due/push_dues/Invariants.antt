use Rattle.std.proofs.Common.{◌≡◌, ◌++◌, drop, map}
use Rattle.lc_plan.specs.View.{calls_of}
use Rattle.lc_crew.specs.Turns.{dues_of, made_ever}
use Rattle.lc_crew.proofs.due.push_dues.Given as goal

-- with what is left of the script there is the whole of it
abbrev pub invariant-loop-calls : goal.invariant-loop-calls
invariant-loop-calls l =
    dues_of l.dues.items ++ made_ever (map calls_of (drop l.calls-index l.script.calls.items)) ≡ dues_of l.fn.dues.items ++ made_ever (map calls_of l.script.calls.items)
