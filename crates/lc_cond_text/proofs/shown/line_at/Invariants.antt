use Rattle.lc_cond.specs.Stream.{parts_left}
use Rattle.lc_outline.specs.DevelopmentView.{development_view}
use Rattle.lc_cond_text.proofs.Places.{IsAhead}
use Rattle.lc_cond_text.proofs.shown.line_at.Given as goal

-- the condition is among those that are left
abbrev pub invariant-parts : goal.invariant-parts
invariant-parts l = IsAhead (development_view l.development) l.stream l.number

abbrev pub decreases-parts : goal.decreases-parts
decreases-parts l = parts_left (development_view l.development) l.stream
