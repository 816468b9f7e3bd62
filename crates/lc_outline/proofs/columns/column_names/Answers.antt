use Rattle.std.proofs.Common.{◌++◌, ap, ◌∙◌, map}
use Rattle.lc_term.specs.SystemColumns.{system_columns}
use Rattle.lc_seq.specs.Specification as Q
use Rattle.lc_seq.specs.SpecView.{columns_of}
use Rattle.lc_object.specs.Syntax as O
use Rattle.lc_object.specs.View.{column_view}
use Rattle.lc_outline.specs.PartsView.{parts_view}
use Rattle.lc_reading.specs.Words.{names_in}
use Rattle.lc_outline.proofs.Names.{names_joined}
use Rattle.lc_outline.proofs.columns.column_names.Goals as goal

pub returns : goal.returns
returns c =
    let D = parts_view c.args.parts.now in
    let abstracts = map (λ (c : Q.Column). c.name) in
    let concretes = map (λ (c : O.Column). c.name) in
    names_joined c.with_system_columns.result (abstracts D.specification.columns) (concretes D.object.concretes) (abstracts D.auxiliaries) system_columns
    (names_in c.new.result.items) (names_in c.in_ok-names.names.items) (names_in c.in_ok-names-2.names.items) (names_in c.in_ok-names-3.names.items)
    (ap names_in c.new.ensures.items)
    (c.in_ok-names.ensures ∙ ap (λ cs. names_in c.new.result.items ++ abstracts cs) c.columns.ensures)
    (c.in_ok-names-2.ensures ∙ ap (λ cs. names_in c.in_ok-names.names.items ++ concretes (map column_view cs)) c.deref.ensures.value ∙ ap (λ (o : O.Object). names_in c.in_ok-names.names.items ++ concretes o.concretes) c.parts.ensures.shown)
    (c.in_ok-names-3.ensures ∙ ap (λ cs. names_in c.in_ok-names-2.names.items ++ abstracts (columns_of cs)) c.deref-2.ensures.value)
    c.with_system_columns.ensures
