use Rattle.lc_reading.proofs.Files.{says_one}
use Rattle.lc_cert.proofs.Refusals.{read_or_refused, not_read_and_refused, refused_once}
use Rattle.lc_cert.proofs.Rising.{certificate_rises}
use Rattle.lc_cert.proofs.Sized.{certificate_sized}
use Rattle.lc_cert.specs.Readings.{certificate_reading}
use Rattle.lc_cert.proofs.laws.a_certificate_is_read_or_refused.Goals as goal

pub returns : goal.returns
returns c = record {
  one = read_or_refused;
  not_both = not_read_and_refused;
  one_certificate = λ D. says_one (certificate_reading D);
  one_refusal = refused_once;
  rising = certificate_rises;
  few_steps = certificate_sized;
}
