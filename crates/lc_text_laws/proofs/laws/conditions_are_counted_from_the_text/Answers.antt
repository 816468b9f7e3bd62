use Rattle.lc_text_laws.proofs.Limit.{text_counted}
use Rattle.lc_text_laws.proofs.laws.conditions_are_counted_from_the_text.Goals as goal

pub returns : goal.returns
returns c = text_counted
