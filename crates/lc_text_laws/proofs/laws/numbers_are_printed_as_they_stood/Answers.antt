use Rattle.lc_text_laws.proofs.Numerals.{printed_number}
use Rattle.lc_text_laws.proofs.laws.numbers_are_printed_as_they_stood.Goals as goal

pub returns : goal.returns
returns c = printed_number
