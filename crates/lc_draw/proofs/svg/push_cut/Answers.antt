use Rattle.std.proofs.Common.{◌∙◌, None, Some, option_map, string_bytes, ap, sym}
use Rattle.lc_draw.specs.declared.places.Cut.{Cut}
use Rattle.lc_draw.proofs.Written.{none_written}
use Rattle.lc_draw.proofs.svg.push_cut.Goals as goal

pub returns-in_default : goal.returns-in_default
returns-in_default c = (None, ap (option_map (λ (k : Cut). k.number)) (sym c.in_default.is), none_written (string_bytes c.args.out.now))

pub returns : goal.returns
returns c =
    let written = c.in_ok-write_cut.ensures in
    (Some written.0, ap Some written.1 ∙ ap (option_map (λ (k : Cut). k.number)) (sym c.in-Some.is), written.2)
