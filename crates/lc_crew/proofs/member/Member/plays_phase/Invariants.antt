use Rattle.std.proofs.Common.{◌≡◌, List, Option, drop, map}
use Rattle.lc_plan.specs.View.{script_of}
use Rattle.lc_sound.specs.Instrumented.{Label}
use Rattle.lc_crew.specs.Members.{client_of, halt_of, made_by}
use Rattle.lc_crew.specs.Playing.{HasPlayedFrom, calls_in}
use Rattle.lc_crew.specs.declared.halt.Halt.{Halt}
use Rattle.lc_crew.proofs.member.Member.plays_phase.Given as goal

-- what is still played of the phase makes the whole of it
abbrev pub invariant-loop-script : goal.invariant-loop-script
invariant-loop-script g l =
    let c = client_of l.fn.self in
    (client_of l.member ≡ c)
    × ((end : Option Halt) (after : List Label) → HasPlayedFrom (halt_of l.member) end (calls_in c (map script_of (drop l.script-index l.phase))) c (made_by l.member) after
    → HasPlayedFrom (halt_of l.fn.self) end (calls_in c (map script_of l.phase)) c (made_by l.fn.self) after)
