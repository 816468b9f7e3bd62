use Rattle.lc_short.proofs.Shortened.{left_as_it_is, and_no_other}
use Rattle.lc_short.proofs.laws.a_development_is_a_short_one.Goals as goal

pub returns : goal.returns
returns c = record { left_as_it_is = left_as_it_is; and_no_other = and_no_other }
