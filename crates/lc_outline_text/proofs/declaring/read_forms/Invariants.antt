use Rattle.std.proofs.Common.{◌≡◌, ◌++◌, map}
use Rattle.lc_sexp.specs.Shown.{rest_of}
use Rattle.lc_object_text.specs.ObjectNames.{first_text}
use Rattle.lc_object_text.specs.Seen.{size, forms_left}
use Rattle.lc_reading.specs.TableView.{listed}
use Rattle.lc_outline_text.specs.Rests.{rests_of}
use Rattle.lc_outline_text.proofs.declaring.read_forms.Given as goal

-- the forms so far, and those that are left, are all that will be there
abbrev pub invariant-forms : goal.invariant-forms
invariant-forms l = record {
  names : listed l.names ++ map first_text (forms_left l.due l.word (rest_of l.list)) ≡ map first_text (forms_left l.some l.word (rest_of l.fn.list));
  forms : rests_of l.forms.items ++ forms_left l.due l.word (rest_of l.list) ≡ forms_left l.some l.word (rest_of l.fn.list);
}

abbrev pub decreases-forms : goal.decreases-forms
decreases-forms l = size l.list
