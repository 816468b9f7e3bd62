use Rattle.std.proofs.Common.{◌≡◌, ◌++◌, drop, map}
use Rattle.lc_plan.specs.View.{script_of}
use Rattle.lc_crew.specs.Playing.{calls_in}
use Rattle.lc_crew.specs.Turns.{dues_of, made_ever}
use Rattle.lc_crew.proofs.due.dues_in.Given as goal

-- with what is left of the phase there is the whole of it
abbrev pub invariant-loop-script : goal.invariant-loop-script
invariant-loop-script l =
    dues_of l.dues.items ++ made_ever (calls_in l.client (map script_of (drop l.script-index l.phase))) ≡ made_ever (calls_in l.client (map script_of l.phase))
