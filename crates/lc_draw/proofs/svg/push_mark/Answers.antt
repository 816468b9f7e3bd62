use Rattle.std.proofs.Common.{string_bytes, refl}
use Rattle.lc_draw.specs.Shapes.{Mark, mark_line, mark_place}
use Rattle.lc_draw.proofs.Written.{written_two}
use Rattle.lc_draw.proofs.svg.push_mark.Goals as goal

pub returns : goal.returns
returns c =
    let m : Mark = record { place = c.args.mark.place; across = c.across_of-across.result; top = c.saturating_sub-top.result; over = c.saturating_sub.result } in (
      m,
      refl,
      written_two (mark_line m.across m.top) (mark_place m.place m.across m.over) (string_bytes c.args.out.now) (string_bytes c.write_mark_line.new.out) (string_bytes c.write_mark_place.new.out)
          c.in_ok-write_mark_line.ensures.text c.in_ok-write_mark_line.ensures.formed c.in_ok-write_mark_place.ensures.text c.in_ok-write_mark_place.ensures.formed,
    )
