use Rattle.std.proofs.Common.{◌≡◌, ◌++◌, flat_map, take}
use Rattle.std.specs.Prelude.{codes}
use Rattle.lc_outline.specs.DevelopmentView.{development_view}
use Rattle.lc_term.specs.UpdateView.{writes_view}
use Rattle.lc_trace.specs.Lines.{cell_text}
use Rattle.lc_trace.proofs.lines.push_more_cells.Given as goal

-- the cells so far
abbrev pub invariant-loop-cell : goal.invariant-loop-cell
invariant-loop-cell l =
    l.text.items ≡ l.fn.text.items ++ flat_map (λ w. codes "," ++ cell_text (development_view l.development) w) (writes_view (take l.cell-index l.cells))
