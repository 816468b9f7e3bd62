use Rattle.std.proofs.Common.{option_map, sym, ◌∙◌}
use Rattle.lc_term.specs.UpdateView.{write_view}
use Rattle.lc_acting.proofs.LeftIn.{left_here, left_before}
use Rattle.lc_acting.proofs.comparing.last_with.Goals as goal

pub returns-then-is_to : goal.returns-then-is_to
returns-then-is_to c = λ ws h. left_here ws (write_view c.args.write) c.args.at.column.0 c.args.at.index (sym c.is_to.ensures ∙ c.if-is_to.true)

pub returns-else-is_to : goal.returns-else-is_to
returns-else-is_to c = λ ws h. left_before ws (write_view c.args.write) c.args.at.column.0 c.args.at.index (option_map write_view c.args.last) (sym c.is_to.ensures ∙ c.if-is_to.false) h
