use Rattle.std.proofs.Common.{string_bytes}
use Rattle.lc_draw.specs.Shapes.{style_element}
use Rattle.lc_draw.proofs.Written.{written_one}
use Rattle.lc_draw.proofs.svg.push_style.Goals as goal

pub returns : goal.returns
returns c = (
  c.style.result.now,
  written_one (style_element c.style.result.now) (string_bytes c.args.out.now) (string_bytes c.write_style.new.out) c.in_ok-write_style.ensures.text c.in_ok-write_style.ensures.formed,
)
