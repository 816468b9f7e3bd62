use Rattle.std.proofs.Common.{List, ap, map, sym, ◌∙◌}
use Rattle.lc_outline.proofs.Names.{named_alone}
use Rattle.lc_outline.specs.ColumnNames.{name_at}
use Rattle.lc_outline.specs.Development.{Development}
use Rattle.lc_seq.specs.Specification as Q
use Rattle.lc_seq.specs.SpecView.{operation_of}
use Rattle.lc_trace.specs.Lines.{operation_name}
use Rattle.lc_trace.proofs.lists.operation_name.Goals as goal

pub returns-then-place-operations : goal.returns-then-place-operations
returns-then-place-operations c =
    let k = c.args.operation.0 in
    let x = c.index-operations-place.result in
    c.as_str.ensures.text ∙ ap (λ y. (operation_of y).name) (sym c.index-operations-place.is)
    ∙ named_alone (λ (o : Q.Operation). o.name) operation_of c.operations-operations.result.now k x c.if-place-operations.true c.index-operations-place.is
    ∙ ap (λ (os : List Q.Operation). name_at (map (λ (o : Q.Operation). o.name) os) k) c.operations-operations.ensures
    ∙ ap (λ (D : Development). operation_name D k) c.parts.ensures.shown
