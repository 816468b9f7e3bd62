use Rattle.std.proofs.Common.{string_bytes, refl}
use Rattle.lc_draw.specs.Shapes.{Cut, cut_label, cut_line}
use Rattle.lc_draw.proofs.Written.{written_two}
use Rattle.lc_draw.proofs.svg.write_cut.Goals as goal

pub returns : goal.returns
returns c =
    let k : Cut = record { number = c.args.cut.number; across = c.across_of-across.result; top = 24; until = c.saturating_sub-until.result; over = c.saturating_sub-over.result } in (
      k,
      refl,
      written_two (cut_line k.across k.top k.until) (cut_label k.number k.across k.over) (string_bytes c.args.out.now) (string_bytes c.write_cut_line.new.out) (string_bytes c.write_cut_label.new.out)
          c.in_ok-write_cut_line.ensures.text c.in_ok-write_cut_line.ensures.formed c.in_ok-write_cut_label.ensures.text c.in_ok-write_cut_label.ensures.formed,
    )
