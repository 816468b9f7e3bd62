use Rattle.std.proofs.Common.{◌∙◌}
use Rattle.lc_numbers.proofs.Parsed.{parsed_whole}
use Rattle.lc_numbers.proofs.numbers.whole_in.Goals as goal

pub returns : goal.returns
returns c = c.ok.ensures.value ∙ parsed_whole c.args.text.now c.parse.result c.parse.ensures.value.0
