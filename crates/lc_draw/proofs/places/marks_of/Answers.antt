use Rattle.std.proofs.Common.{map, refl, arith}
use Rattle.lc_draw.specs.Counting.{numbered_places}
use Rattle.lc_draw.specs.declared.places.Mark.{Mark}
use Rattle.lc_draw.proofs.Turning.{places-done, places-next}
use Rattle.lc_draw.proofs.places.marks_of.Goals as goal

pub mark_entry-requires : goal.mark_entry-requires
mark_entry-requires c = c.requires c.loop-place.place _ (omega arith)

pub loop-place-preserved : goal.loop-place-preserved
loop-place-preserved c =
    let ns = c.args.bar_of_entry.now in
    places-next c.loop-place.place ns _ _ (map (λ (m : Mark). m.place) c.loop-place.marks.items) (map (λ (m : Mark). m.place) c.mark_entry.new.marks.items) (numbered_places 0 ns) (omega arith) refl c.in_ok-behind.ensures
    c.loop-place.invariant

pub returns : goal.returns
returns c =
    let ns = c.args.bar_of_entry.now in
    places-done c.loop-place.place ns (map (λ (m : Mark). m.place) c.loop-place.marks.items) (numbered_places 0 ns) (omega arith) c.loop-place.invariant
