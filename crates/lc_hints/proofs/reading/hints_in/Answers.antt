use Rattle.std.proofs.Common.{map, sym, ap, ◌∙◌, subst, Err}
use Rattle.lc_sexp.specs.Shown.{rest_of, number_of, owner_of}
use Rattle.lc_cert.specs.Certificates.{HaveFewSteps}
use Rattle.lc_outline.specs.ColumnNames.{column_names}
use Rattle.lc_cert.specs.Printed.{EntryReadsBack}
use Rattle.lc_outline.specs.DevelopmentView.{development_view}
use Rattle.lc_reading.specs.Results.{IsReadFault}
use Rattle.lc_reading.specs.TableView.{listed}
use Rattle.lc_reading.specs.Words.{names_in}
use Rattle.lc_term.specs.Lists.{Every}
use Rattle.lc_hints.proofs.Answered.{trees_answered, given_had}
use Rattle.lc_hints.proofs.Kept.{hints_kept, hints_sized}
use Rattle.lc_hints.proofs.Parts.{file_at}
use Rattle.lc_hints.specs.Files.{IsAnswerTo}
use Rattle.lc_hints.specs.View.{hint_of}
use Rattle.lc_hints.proofs.reading.hints_in.Goals as goal

pub of_given-requires : goal.of_given-requires
of_given-requires c =
    let D = development_view c.args.development.now in
    let columns = c.in_ok-columns.ensures ∙ ap names_in c.deref.ensures.value ∙ c.in_ok-names.ensures ∙ ap column_names c.parts-parts.ensures.shown in
    let same = file_at D (owner_of c.cursor.result) (number_of c.cursor.result) (rest_of c.cursor.result) c.args.forms (listed c.in_ok-columns.columns) c.cursor.ensures.owner c.cursor.ensures.number c.cursor.ensures.rest columns in
    subst HaveFewSteps (sym c.in_ok-gathered-in-Ok.ensures.proofs)
    (hints_sized D c.requires.0 (map hint_of c.in-Ok.hints.items) (c.args.forms, c.requires.1, sym same ∙ c.in-Ok.ensures))

pub returns-in-Ok-clause-answer : goal.returns-in-Ok-clause-answer
returns-in-Ok-clause-answer c = λ bytes reads.
    let D = development_view c.args.development.now in
    let columns = c.in_ok-columns.ensures ∙ ap names_in c.deref.ensures.value ∙ c.in_ok-names.ensures ∙ ap column_names c.parts-parts.ensures.shown in
    let same = file_at D (owner_of c.cursor.result) (number_of c.cursor.result) (rest_of c.cursor.result) c.args.forms (listed c.in_ok-columns.columns) c.cursor.ensures.owner c.cursor.ensures.number c.cursor.ensures.rest columns in
    let hs = map hint_of c.in-Ok.hints.items in
    let given = c.in_ok-gathered-in-Ok.field-0 in (
      hs,
      (c.args.forms, reads, sym same ∙ c.in-Ok.ensures),
      given_had hs given c.of_given.result c.in_ok-gathered-in-Ok.ensures c.of_given.ensures.proofs c.of_given.ensures.terms c.of_given.ensures.formulas,
    )

pub returns-in-Ok-clause-back : goal.returns-in-Ok-clause-back
returns-in-Ok-clause-back c =
    let D = development_view c.args.development.now in
    let columns = c.in_ok-columns.ensures ∙ ap names_in c.deref.ensures.value ∙ c.in_ok-names.ensures ∙ ap column_names c.parts-parts.ensures.shown in
    let same = file_at D (owner_of c.cursor.result) (number_of c.cursor.result) (rest_of c.cursor.result) c.args.forms (listed c.in_ok-columns.columns) c.cursor.ensures.owner c.cursor.ensures.number c.cursor.ensures.rest columns in
    let hs = map hint_of c.in-Ok.hints.items in
    subst (Every (EntryReadsBack D)) (sym (c.of_given.ensures.proofs ∙ c.in_ok-gathered-in-Ok.ensures.proofs))
    (hints_kept D c.requires.0 hs (c.args.forms, c.requires.1, sym same ∙ c.in-Ok.ensures))

pub returns-clause-answer : goal.returns-clause-answer
returns-clause-answer c = λ bytes reads.
    let D = development_view c.args.development.now in
    let columns = c.in_ok-columns.ensures ∙ ap names_in c.deref.ensures.value ∙ c.in_ok-names.ensures ∙ ap column_names c.parts-parts.ensures.shown in
    let same = file_at D (owner_of c.cursor.result) (number_of c.cursor.result) (rest_of c.cursor.result) c.args.forms (listed c.in_ok-columns.columns) c.cursor.ensures.owner c.cursor.ensures.number c.cursor.ensures.rest columns in
    subst (λ f. IsAnswerTo D bytes (Err f)) (sym c.from.ensures)
    (trees_answered D bytes c.args.forms c.in-Err.fault reads (subst (λ r. IsReadFault r c.in-Err.fault) same c.in-Err.ensures))
