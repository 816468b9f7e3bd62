use Rattle.std.proofs.Common.{◌≡◌, ◌+◌, ◌-◌, min, length, slice_range, ap, ◌∙◌, arith}
use Rattle.lc_place.specs.Excerpt.{characters_in, shown_marks}
use Rattle.lc_place.proofs.Windows.{excerpt_is}
use Rattle.lc_place.proofs.excerpt.line_excerpt.Goals as goal

pub returns : goal.returns
returns c =
    let bytes = c.args.bytes.now in
    let size = c.args.place.length in
    let start = c.min-start.result in
    let from = c.window_start-from.result in
    let to = c.window_end-to.result in
    let a = c.window_start-from.ensures in
    let b = c.window_end-to.ensures in
    let e : start ≡ min c.args.place.offset (length bytes) = omega arith in
    let r : 160 - c.characters_in-room.result ≡ 160 - characters_in (slice_range bytes from start) = ap (λ n. 160 - n) c.characters_in-room.ensures in
    let u : start + c.min.result ≡ start + min size (to - start) = omega arith in
    excerpt_is bytes c.args.place.offset size start from to (160 - c.characters_in-room.result) c.in_ok-line.line.items c.in_ok-marks.marks.items e a.before a.in_line a.few r b.behind b.within b.in_line b.few
    c.in_ok-line.ensures (c.in_ok-marks.ensures ∙ ap (λ n. shown_marks bytes from start n) u)
