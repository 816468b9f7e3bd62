use Rattle.std.proofs.Common.{◌≡◌, List, map, take, string_bytes}
use Rattle.std.specs.List.{flat_map}
use Rattle.lc_draw.specs.Elements.{HasWritten}
use Rattle.lc_draw.specs.Shapes as S
use Rattle.lc_draw.specs.Shapes.{mark_elements}
use Rattle.lc_draw.specs.declared.places.Mark.{Mark}
use Rattle.lc_draw.proofs.svg.push_marks.Given as goal

-- the marks so far are written
abbrev pub invariant-loop-mark : goal.invariant-loop-mark
invariant-loop-mark l =
    (ms : List S.Mark) × (map (λ (m : S.Mark). m.place) ms ≡ map (λ (m : Mark). m.place) (take l.mark-index l.marks)) × HasWritten (flat_map mark_elements ms) (string_bytes l.fn.out) (string_bytes l.out)
