use Rattle.lc_reading.proofs.Files.{says_or_refused, says_not_refused, says_one, refused_once}
use Rattle.lc_hints.specs.Readings.{hints_reading}
use Rattle.lc_hints.proofs.laws.hints_are_read_or_refused.Goals as goal

pub returns : goal.returns
returns c = record {
  one = λ D. says_or_refused (hints_reading D);
  not_both = λ D. says_not_refused (hints_reading D);
  one_list = λ D. says_one (hints_reading D);
  one_refusal = λ D. refused_once (hints_reading D);
}
