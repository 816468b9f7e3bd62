use Rattle.std.proofs.Common.{◌≡◌, true, None, sym, ap, ◌∙◌, subst}
use Rattle.lc_sexp.specs.Shown.{rest_of, number_of, owner_of}
use Rattle.lc_object.specs.Syntax.{Object}
use Rattle.lc_outline.specs.Development.{Development}
use Rattle.lc_outline.specs.DevelopmentView.{development_view}
use Rattle.lc_reading.proofs.Fine.{of_fine}
use Rattle.lc_reading.specs.Readings.{fine}
use Rattle.lc_reading.specs.Results.{IsReadFault}
use Rattle.lc_reading.specs.TableView.{listed}
use Rattle.lc_reading.specs.Words.{names_in}
use Rattle.lc_cert.proofs.Behind.{file_at}
use Rattle.lc_cert.proofs.Refusals.{trees_refused}
use Rattle.lc_cert.proofs.Rising.{file_rises}
use Rattle.lc_cert.specs.Certificates.{is_rising}
use Rattle.lc_outline.specs.ColumnNames.{column_names}
use Rattle.lc_cert.specs.EntryView.{entries_of}
use Rattle.lc_cert.proofs.reading.certificate_of.Goals as goal

pub of_entries-requires : goal.of_entries-requires
of_entries-requires c =
    of_fine (λ es. is_rising None es ≡ true) _ (entries_of c.in-Ok-read_file.entries.items)
    (file_rises (listed c.in_ok-columns.columns) c.as_str.result.now (owner_of c.cursor.result) (number_of c.cursor.result) (rest_of c.cursor.result)) c.in-Ok-read_file.ensures

pub returns-in-Ok-read_file : goal.returns-in-Ok-read_file
returns-in-Ok-read_file c =
    let D = development_view c.args.development.now in
    let columns = c.in_ok-columns.ensures ∙ ap names_in c.deref.ensures.value ∙ c.in_ok-names.ensures ∙ ap column_names c.parts-parts.ensures.shown in
    let name = c.as_str.ensures.text ∙ ap (λ (o : Object). o.name) c.parts.ensures.shown ∙ ap (λ (D : Development). D.object.name) c.parts-parts.ensures.shown in
    let same = file_at D (owner_of c.cursor.result) (number_of c.cursor.result) (rest_of c.cursor.result) c.in-Ok.forms (listed c.in_ok-columns.columns) c.as_str.result.now c.cursor.ensures.owner c.cursor.ensures.number c.cursor.ensures.rest columns name in
    (c.in-Ok.forms, c.in-Ok.ensures.answer, sym same ∙ c.in-Ok-read_file.ensures ∙ ap fine (sym c.of_entries.ensures))

pub returns : goal.returns
returns c =
    let D = development_view c.args.development.now in
    let columns = c.in_ok-columns.ensures ∙ ap names_in c.deref.ensures.value ∙ c.in_ok-names.ensures ∙ ap column_names c.parts-parts.ensures.shown in
    let name = c.as_str.ensures.text ∙ ap (λ (o : Object). o.name) c.parts.ensures.shown ∙ ap (λ (D : Development). D.object.name) c.parts-parts.ensures.shown in
    let same = file_at D (owner_of c.cursor.result) (number_of c.cursor.result) (rest_of c.cursor.result) c.in-Ok.forms (listed c.in_ok-columns.columns) c.as_str.result.now c.cursor.ensures.owner c.cursor.ensures.number c.cursor.ensures.rest columns name in
    rw c.trees_told.ensures (trees_refused D c.args.bytes.now c.in-Ok.forms c.in-Err-read_file.fault c.in-Ok.ensures.answer (subst (λ r. IsReadFault r c.in-Err-read_file.fault) same c.in-Err-read_file.ensures))
