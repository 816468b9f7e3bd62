use Rattle.lc_cond.specs.Stream.{parts_left}
use Rattle.lc_outline.specs.DevelopmentView.{development_view}
use Rattle.lc_houdini.proofs.implied.unimplied_of.Given as goal

abbrev pub decreases-parts : goal.decreases-parts
decreases-parts l = parts_left (development_view l.development) l.stream
