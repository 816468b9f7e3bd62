use Rattle.std.proofs.Common.{sym, ap, subst}
use Rattle.std.specs.Prelude.{codes}
use Rattle.lc_sexp.specs.Shown.{rest_of, number_of, owner_of}
use Rattle.lc_reading.proofs.Listed.{behind_reading-err}
use Rattle.lc_reading.proofs.Sections.{behind_reading-is}
use Rattle.lc_reading.specs.Readings.{mapped}
use Rattle.lc_reading.specs.Results.{IsReading}
use Rattle.lc_reading.specs.TableView.{listed}
use Rattle.lc_seq.specs.SpecView.{operation_of}
use Rattle.lc_spec_text.specs.Operations.{the_operation, operation_parts_reading}
use Rattle.lc_spec_text.specs.ScopeView.{columns_view}
use Rattle.lc_spec_text.proofs.operation.read_form.Goals as goal
use Rattle.lc_reading.proofs.Results.{misfit_told}

pub returns-in_err-list : goal.returns-in_err-list
returns-in_err-list c =
    let read = operation_parts_reading (columns_view c.args.columns) (listed c.args.before.now) in
    misfit_told operation_of _ c.in_err-list.field-0.0 _ (ap (mapped the_operation) (behind_reading-err (codes "op") read c.args.part c.in_err-list.field-0.0 c.in_err-list.ensures)) c.from_residual.ensures.1

pub returns : goal.returns
returns c =
    let read = operation_parts_reading (columns_view c.args.columns) (listed c.args.before.now) in
    let l = c.in_ok-list.list in
    subst (λ r. IsReading operation_of (mapped the_operation r) c.made_operation.result) (sym (behind_reading-is (codes "op") read c.args.part l c.in_ok-list.ensures))
    (c.made_operation.ensures (read (owner_of l) (number_of l) (rest_of l)) c.read_operation_parts.ensures)
