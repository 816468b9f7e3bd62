use Rattle.std.proofs.Common.{◌++◌, string_bytes, ap, ◌∙◌}
use Rattle.std.specs.Prelude.{codes}
use Rattle.lc_object.specs.Syntax.{Object}
use Rattle.lc_outline.specs.Development.{Development}
use Rattle.lc_outline.specs.DevelopmentView.{development_view}
use Rattle.lc_reading.specs.Words.{names_in}
use Rattle.lc_sexp.specs.Printed.{printed_others}
use Rattle.lc_cert.proofs.Written.{written_line}
use Rattle.lc_cert.specs.CertificateView.{entries_in}
use Rattle.lc_outline.specs.ColumnNames.{column_names}
use Rattle.lc_cert.specs.ColumnNames.{spelled_with}
use Rattle.lc_cert.specs.EntryView.{entries_of}
use Rattle.lc_cert.specs.Printed.{entry_trees}
use Rattle.lc_cert.proofs.printing.certificate_text.Goals as goal

pub returns : goal.returns
returns c =
    let D = development_view c.args.development.now in
    let name = c.as_str.ensures.text ∙ ap (λ (o : Object). o.name) c.parts.ensures.shown ∙ ap (λ (D : Development). D.object.name) c.parts-parts.ensures.shown in
    let columns = ap names_in c.deref.ensures.value ∙ c.in_ok-columns.ensures ∙ ap column_names c.parts-parts.ensures.shown in
    let others = ap (λ names. printed_others (entry_trees (spelled_with names) (entries_of c.entries.result.now))) columns ∙ ap (λ es. printed_others (entry_trees (spelled_with (column_names D)) es)) c.entries.ensures.shown in
    ap (λ v. v.items) c.into_bytes.ensures.value
    ∙ written_line D (entries_in c.args.certificate.now) _ _ _ _
    (c.in_ok-push_str.ensures.bytes ∙ ap (λ w. w ++ codes "(certificate ") c.new-out.ensures.bytes)
    (c.in_ok-push_str-2.ensures.bytes ∙ ap (λ w. string_bytes c.push_str.new.self ++ w) name)
    (c.in_ok-write_entries.ensures ∙ ap (λ w. string_bytes c.push_str-2.new.self ++ w) others)
    c.in_ok-push_str-3.ensures.bytes
