use Rattle.lc_table.specs.Tables.{Keeps}
use Rattle.lc_outline.specs.DevelopmentView.{development_view}
use Rattle.lc_cond.specs.Stream.{parts_left}
use Rattle.lc_cond.proofs.Drained.{IsDrained}
use Rattle.lc_cond.proofs.stream.conditions.Given as goal

abbrev pub invariant-parts : goal.invariant-parts
invariant-parts l = Keeps l.fn.terms l.terms × IsDrained (development_view l.development) l.terms l.list.items l.stream

abbrev pub decreases-parts : goal.decreases-parts
decreases-parts l = parts_left (development_view l.development) l.stream
