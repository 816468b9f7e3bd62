use Rattle.lc_page.proofs.Plainly.{none_has_markup}
use Rattle.lc_page.proofs.laws.no_data_have_markup.Goals as goal

pub returns : goal.returns
returns c = none_has_markup
