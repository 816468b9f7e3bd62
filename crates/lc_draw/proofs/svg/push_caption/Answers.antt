use Rattle.std.proofs.Common.{string_bytes}
use Rattle.lc_draw.specs.Shapes.{caption_element}
use Rattle.lc_draw.proofs.Written.{written_one}
use Rattle.lc_draw.proofs.svg.push_caption.Goals as goal

pub returns : goal.returns
returns c =
    let above = c.saturating_sub.result in
    let text = c.as_str.result.now in
    (above, text, written_one (caption_element above text) (string_bytes c.args.out.now) (string_bytes c.write_caption.new.out) c.in_ok-write_caption.ensures.text c.in_ok-write_caption.ensures.formed)
