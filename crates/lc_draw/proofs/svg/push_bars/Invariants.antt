use Rattle.std.proofs.Common.{◌≡◌, List, length, string_bytes, take}
use Rattle.std.specs.List.{flat_map}
use Rattle.lc_history.specs.History.{count}
use Rattle.lc_draw.specs.Elements.{HasWritten}
use Rattle.lc_draw.specs.Shapes.{Bar, bar_elements}
use Rattle.lc_draw.proofs.svg.push_bars.Given as goal

-- those of the bars so far that are held are written
abbrev pub invariant-loop-number : goal.invariant-loop-number
invariant-loop-number l = (bs : List Bar) × (length bs ≡ count (λ is. is) (take l.number l.held)) × HasWritten (flat_map bar_elements bs) (string_bytes l.fn.out) (string_bytes l.out)
