use Rattle.lc_reading.proofs.Files.{says_or_refused, says_not_refused, says_one, refused_once}
use Rattle.lc_plan.specs.Readings.{plan_reading}
use Rattle.lc_plan.proofs.laws.plans_are_read_or_refused.Goals as goal

pub returns : goal.returns
returns c = record {
  one = λ D. says_or_refused (plan_reading D);
  not_both = λ D. says_not_refused (plan_reading D);
  one_plan = λ D. says_one (plan_reading D);
  one_refusal = λ D. refused_once (plan_reading D);
}
