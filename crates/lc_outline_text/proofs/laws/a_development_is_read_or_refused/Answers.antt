use Rattle.lc_reading.proofs.Files.{says_or_refused, says_not_refused, says_one, refused_once}
use Rattle.lc_outline_text.specs.Developments.{file_reading}
use Rattle.lc_outline_text.proofs.laws.a_development_is_read_or_refused.Goals as goal

pub returns : goal.returns
returns c =
    record { one = says_or_refused file_reading; not_both = says_not_refused file_reading; one_development = says_one file_reading; one_refusal = refused_once file_reading }
