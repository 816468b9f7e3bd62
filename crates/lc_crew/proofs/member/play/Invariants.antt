use Rattle.std.proofs.Common.{◌≡◌, false, List, Option, drop, map}
use Rattle.lc_plan.specs.View.{calls_of}
use Rattle.lc_run.specs.Labels.{is_unfinished}
use Rattle.lc_run.specs.Locked.{client_in, labels_made}
use Rattle.lc_sound.specs.Instrumented.{Label}
use Rattle.lc_crew.specs.Playing.{HasPlayed}
use Rattle.lc_crew.specs.declared.halt.Halt.{Halt}
use Rattle.lc_crew.proofs.member.play.Given as goal

-- what is still played of the script makes the whole of it
abbrev pub invariant-loop-calls : goal.invariant-loop-calls
invariant-loop-calls g l =
    (client_in l.seat ≡ client_in l.fn.seat) × (is_unfinished (labels_made l.seat) ≡ false)
    × ((halt : Option Halt) (after : List Label) → HasPlayed halt (map calls_of (drop l.calls-index l.script.calls.items)) (client_in l.fn.seat) (labels_made l.seat) after
    → HasPlayed halt (map calls_of l.script.calls.items) (client_in l.fn.seat) (labels_made l.fn.seat) after)
