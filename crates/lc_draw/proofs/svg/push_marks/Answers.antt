use Rattle.std.proofs.Common.{◌++◌, ◌∷◌, [], refl, string_bytes}
use Rattle.lc_draw.specs.Shapes.{mark_elements}
use Rattle.lc_draw.specs.declared.places.Mark.{Mark}
use Rattle.lc_draw.proofs.Written.{none_written, one_written, places_more}
use Rattle.lc_draw.proofs.svg.push_marks.Goals as goal

pub loop-mark-init : goal.loop-mark-init
loop-mark-init c = ([], refl, none_written (string_bytes c.args.out.now))

pub loop-mark-preserved : goal.loop-mark-preserved
loop-mark-preserved c =
    let old = c.loop-mark.invariant in
    let mark = c.in_ok-push_mark.ensures in (
      old.0 ++ mark.0 ∷ [],
      places_more (λ (m : Mark). m.place) old.0 mark.0 c.args.marks.now c.loop-mark.mark-index _ _ c.loop-mark-test.true refl mark.1 old.1,
      one_written mark_elements old.0 mark.0 (string_bytes c.args.out.now) (string_bytes c.loop-mark.out) (string_bytes c.push_mark.new.out) old.2 mark.2,
    )
