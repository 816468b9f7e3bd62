use Rattle.lc_text_laws.proofs.Limit.{has_forms, few_conditions, said_within, refused_beyond}
use Rattle.lc_text_laws.proofs.laws.developments_are_within_the_limit.Goals as goal

pub returns : goal.returns
returns c = record { formed = has_forms; few = few_conditions; said = said_within; refused = refused_beyond }
