use Rattle.lc_object_text.proofs.FileAnswers.{said_or_refused, said_not_refused, one_object, one_refusal}
use Rattle.lc_object_text.proofs.laws.objects_are_read_or_refused.Goals as goal

pub returns : goal.returns
returns c = record { one = said_or_refused; not_both = said_not_refused; one_object = one_object; one_refusal = one_refusal }
