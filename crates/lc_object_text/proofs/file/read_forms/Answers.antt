use Rattle.std.proofs.Common.{◌≡◌, ℕ, ◌+◌, refl, sym, subst}
use Rattle.lc_sexp.specs.Trees.{Tree, Trees, ◌▸◌, item_count}
use Rattle.lc_sexp.specs.Shown.{rest_of, number_of}
use Rattle.lc_object.specs.View.{parts_of}
use Rattle.lc_reading.specs.Parts.{tree_of, place_of}
use Rattle.lc_reading.specs.Readings.{both}
use Rattle.lc_reading.specs.Results.{IsReading}
use Rattle.lc_object_text.specs.DeclaredView.{declared_view}
use Rattle.lc_object_text.specs.ObjectNames.{Declared}
use Rattle.lc_object_text.specs.Objects.{object_of, specification_reading, second_form_reading, forms_reading}
use Rattle.lc_object_text.specs.Sections.{Sections}
use Rattle.lc_object_text.specs.Seen.{sections_view}
use Rattle.lc_object_text.proofs.file.read_forms.Goals as goal

forms_from : (declared : Declared) (sections : Sections) (n i k : ℕ) (t : Tree) (ts us : Trees) → us ≡ t ▸ ts → i ≡ n → k ≡ n + item_count t
    → forms_reading declared sections n us ≡ both object_of (specification_reading declared i t) (second_form_reading declared sections k ts)
forms_from declared sections n i k t ts us same first second = rw (same, first, second) refl

pub returns : goal.returns
returns c =
    let (at, next) = c.in-Ok.ensures in
    let part = c.in-Ok.part in
    let rest = c.next_part.new.list in
    subst (λ r. IsReading parts_of r c.made_object.result)
    (sym (forms_from (declared_view c.args.declared.now) (sections_view c.args.sections.now) (number_of c.args.forms) (place_of part) (number_of rest) (tree_of part) (rest_of rest) (rest_of c.args.forms) next.rest at next.number))
    (c.made_object.ensures _ _ c.read_specification-specification.ensures c.read_second_form-object.ensures)
