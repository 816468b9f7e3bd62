use Rattle.lc_short.proofs.Shortened.{one_of_both, never_both, one_refusal}
use Rattle.lc_short.proofs.laws.a_short_one_is_read_or_refused.Goals as goal

pub returns : goal.returns
returns c = record { one = one_of_both; not_both = never_both; one_refusal = one_refusal }
