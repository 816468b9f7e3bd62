use Rattle.std.proofs.Common.{◌≡◌, ◌∙◌, List, length, map, option_map, string_bytes, ap, arith}
use Rattle.lc_history.specs.History.{count}
use Rattle.lc_draw.specs.Drawings.{Picture}
use Rattle.lc_draw.specs.Shapes as S
use Rattle.lc_draw.specs.Shapes.{sheet_element}
use Rattle.lc_draw.specs.declared.places.Cut.{Cut}
use Rattle.lc_draw.specs.declared.places.Mark.{Mark}
use Rattle.lc_draw.proofs.Drawn.{drawn, draws_so}
use Rattle.lc_draw.proofs.Written.{written_one}
use Rattle.lc_draw.proofs.picture.laid_text.Goals as goal

pub push_bars-requires : goal.push_bars-requires
push_bars-requires c = omega (arith, c.requires, c.deref.ensures.len, c.deref-2.ensures.len)

pub returns : goal.returns
returns c =
    let laid = c.args.laid.now in
    let style = c.in_ok-push_style.ensures in
    let lanes = c.in_ok-push_lanes.ensures in
    let bars = c.in_ok-push_bars.ensures in
    let order = c.in_ok-push_order.ensures in
    let marks = c.in_ok-push_marks.ensures in
    let cut = c.in_ok-push_cut.ensures in
    let caption = c.in_ok-push_caption.ensures in
    let p : Picture = record {
      width = laid.sheet.width;
      height = laid.sheet.height;
      style = style.0;
      lanes = lanes.0;
      bars = bars.0;
      points = order.0;
      marks = marks.0;
      cut = cut.0;
      above = caption.0;
      caption = caption.1;
    } in
    let so : length bars.0 ≡ count (λ is. is) laid.held.items = bars.1 ∙ ap (count (λ is. is)) c.deref-2.ensures.value in
    draws_so (length bars.0) (count (λ is. is) laid.held.items) (map (λ (m : S.Mark). m.place) marks.0) (map (λ (m : Mark). m.place) laid.marks.items) (option_map (λ (k : S.Cut). k.number) cut.0)
    (option_map (λ (k : Cut). k.number) laid.cut) (string_bytes c.end_sheet.new.out) so (marks.1 ∙ ap (λ (ms : List Mark). map (λ (m : Mark). m.place) ms) c.deref-4.ensures.value) cut.1
    (drawn p (string_bytes c.new-out.result) (string_bytes c.begin_sheet.new.out) (string_bytes c.push_style.new.out) (string_bytes c.push_sheet.new.out) (string_bytes c.push_lanes.new.out) (string_bytes c.push_bars.new.out)
    (string_bytes c.push_order.new.out) (string_bytes c.push_marks.new.out) (string_bytes c.push_cut.new.out) (string_bytes c.push_caption.new.out) (string_bytes c.end_sheet.new.out) c.new-out.ensures.bytes c.in_ok-begin_sheet.ensures style.1
    (written_one (sheet_element p.width p.height) (string_bytes c.push_style.new.out) (string_bytes c.push_sheet.new.out) c.in_ok-push_sheet.ensures.text c.in_ok-push_sheet.ensures.formed) lanes.1 bars.2 order.1 marks.2 cut.2 caption.2
    c.in_ok-end_sheet.ensures)
