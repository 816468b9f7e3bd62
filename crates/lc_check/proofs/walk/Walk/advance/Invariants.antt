use Rattle.lc_outline.specs.DevelopmentView.{development_view}
use Rattle.lc_cond.specs.Stream.{parts_left}
use Rattle.lc_check.specs.Walking.{IsAtDue}
use Rattle.lc_check.proofs.walk.Walk.advance.Given as goal

-- the same conditions are expected
abbrev pub invariant-parts : goal.invariant-parts
invariant-parts l = IsAtDue (development_view l.development) l.fn.self l.self

abbrev pub decreases-parts : goal.decreases-parts
decreases-parts l = parts_left (development_view l.development) l.self.stream
