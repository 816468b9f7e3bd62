use Rattle.std.proofs.Common.{◌≡◌, ◌∙◌, sym, ap}
use Rattle.lc_sexp.specs.Shown.{rest_of}
use Rattle.lc_reading.specs.TableView.{listed}
use Rattle.lc_object_text.specs.ObjectNames.{first_text, within_first}
use Rattle.lc_object_text.proofs.SectionWalk.{columns_more}
use Rattle.lc_object_text.proofs.declared_names.enter_columns.Goals as goal

pub columns-preserved : goal.columns-preserved
columns-preserved c =
    let name : c.first_text-name.result.now ≡ first_text (within_first (rest_of c.columns.list)) = c.first_text-name.ensures ∙ ap first_text c.within_first.ensures.rest in
    sym (columns_more c.columns.list c.item.new.self c.in-Ok.field-0 (listed c.columns.names) (listed c.in_ok-names-2.names) c.first_text-name.result.now c.in-Ok.ensures name c.in_ok-names-2.ensures) ∙ c.columns.invariant
