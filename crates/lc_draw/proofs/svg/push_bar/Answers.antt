use Rattle.std.proofs.Common.{string_bytes}
use Rattle.lc_draw.specs.Shapes.{Bar, bar_label, bar_line}
use Rattle.lc_draw.proofs.Written.{written_two}
use Rattle.lc_draw.proofs.svg.push_bar.Goals as goal

pub returns : goal.returns
returns c =
    let b : Bar = record {
      is_at_fault = c.args.is_at_fault;
      is_closed = c.is_some-is_closed.result;
      begins = c.across_of-begins.result;
      ends = c.across_of-ends.result;
      top = c.bar_top_of-top.result;
      from = c.saturating_add.result;
      under = c.saturating_add-2.result;
      text = c.as_str.result.now;
    } in (
      b,
      written_two (bar_line b.is_at_fault b.is_closed b.begins b.ends b.top) (bar_label b.from b.under b.text) (string_bytes c.args.out.now) (string_bytes c.write_bar_line.new.out)
          (string_bytes c.write_bar_label.new.out) c.in_ok-write_bar_line.ensures.text c.in_ok-write_bar_line.ensures.formed c.in_ok-write_bar_label.ensures.text c.in_ok-write_bar_label.ensures.formed,
    )
