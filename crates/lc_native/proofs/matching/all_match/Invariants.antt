use Rattle.std.proofs.Common.{◌≡◌, ◌↔◌, map, drop}
use Rattle.lc_native.proofs.matching.all_match.Given as goal

-- what is left says the same exactly if all does
abbrev pub invariant-loop-i : goal.invariant-loop-i
invariant-loop-i g l =
    (map g.T.Matches.said (drop l.i l.parts) ≡ map g.T.Matches.wanted (drop l.i l.forms)) ↔ (map g.T.Matches.said l.parts ≡ map g.T.Matches.wanted l.forms)
