use Rattle.lc_check.proofs.OneVerdict.{accepted_or_refused, not_accepted_and_refused, accepted_once, verdict_refused_once}
use Rattle.lc_check.proofs.laws.two_files_have_one_verdict.Goals as goal

pub returns : goal.returns
returns c = record { one = accepted_or_refused; not_both = not_accepted_and_refused; one_development = accepted_once; one_refusal = verdict_refused_once }
