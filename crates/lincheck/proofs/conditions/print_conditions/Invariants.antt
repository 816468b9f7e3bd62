use Rattle.lc_cond_text.specs.ConditionText.{conditions_text}
use Rattle.lc_cond_text.specs.LinesView.{text_left, pieces_left}
use Rattle.lc_outline.specs.DevelopmentView.{development_view}
use Rattle.lincheck.specs.Printing.{LeavesOf}
use Rattle.lincheck.proofs.conditions.print_conditions.Given as goal

-- what is printed, with what is left, is the whole text
abbrev pub invariant-pieces : goal.invariant-pieces
invariant-pieces g l = LeavesOf (g.O.Write.contents l.fn.out) (g.O.Write.contents l.out) (text_left l.lines) (conditions_text (development_view l.development))

abbrev pub decreases-pieces : goal.decreases-pieces
decreases-pieces g l = pieces_left l.lines
