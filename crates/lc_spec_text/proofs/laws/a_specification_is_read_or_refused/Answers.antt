use Rattle.lc_reading.proofs.Files.{says_or_refused, says_not_refused, says_one, refused_once}
use Rattle.lc_spec_text.specs.Specifications.{first_reading}
use Rattle.lc_spec_text.proofs.laws.a_specification_is_read_or_refused.Goals as goal

pub returns : goal.returns
returns c =
    record { one = says_or_refused first_reading; not_both = says_not_refused first_reading; one_spec = says_one first_reading; one_refusal = refused_once first_reading }
