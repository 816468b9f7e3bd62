use Rattle.std.proofs.Common.{[], ◌∷◌, ◌++◌, sym, ap, ◌∙◌, subst}
use Rattle.std.proofs.lemmas.Result.{on_ok_weaker}
use Rattle.lc_sexp.specs.Reading as R
use Rattle.lc_object.specs.Syntax.{Object}
use Rattle.lc_reading.specs.TableView.{listed}
use Rattle.lc_reading.specs.Words.{names_in}
use Rattle.lc_outline.specs.Development.{Development}
use Rattle.lc_outline.specs.DevelopmentView.{development_view}
use Rattle.lc_cert.proofs.Pieces.{form_named, under_way_named}
use Rattle.lc_outline.specs.ColumnNames.{column_names}
use Rattle.lc_cert.proofs.cert_reader.CertReader.read_ready.Goals as goal

pub returns : goal.returns
returns c =
    let D = development_view c.args.development.now in
    let columns = c.in_ok-columns.ensures ∙ ap names_in c.deref.ensures.value ∙ c.in_ok-names.ensures ∙ ap column_names c.parts-parts.ensures.shown in
    let name = c.as_str-name.ensures.text ∙ ap (λ (o : Object). o.name) c.parts.ensures.shown ∙ ap (λ (D : Development). D.object.name) c.parts-parts.ensures.shown in
    on_ok_weaker c.read_parts.result
    (λ read spent fed parts taken form reader.
    under_way_named (listed c.in_ok-columns.columns) (column_names D) c.as_str-name.result.now D.object.name fed taken c.read_parts.new.self columns name
    (read (ap R.is_spent c.read_part.ensures.reader ∙ c.in-Some.ensures.spent ∙ spent) fed (parts ++ (c.in-Some.first ∷ [])) taken
    (c.in_ok-read_part.ensures.form parts taken (form_named (listed c.in_ok-columns.columns) (column_names D) c.as_str-name.result.now D.object.name parts taken c.args.self.now.form columns name form))
    (subst (R.IsAfterTaking fed (parts ++ (c.in-Some.first ∷ []))) (sym c.read_part.ensures.reader) (c.in-Some.ensures.part fed parts reader))))
    c.read_parts.ensures
