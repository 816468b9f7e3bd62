use Rattle.std.proofs.Common.{sym, ap, subst}
use Rattle.std.specs.Prelude.{codes}
use Rattle.lc_sexp.specs.Shown.{rest_of, number_of, owner_of}
use Rattle.lc_reading.proofs.Listed.{behind_reading-err}
use Rattle.lc_reading.proofs.Sections.{behind_reading-is}
use Rattle.lc_reading.specs.Readings.{mapped}
use Rattle.lc_reading.specs.Results.{IsReading}
use Rattle.lc_seq.specs.SpecView.{branch_of}
use Rattle.lc_spec_text.specs.Branches.{the_branch, branch_parts_reading}
use Rattle.lc_spec_text.specs.ScopeView.{columns_view}
use Rattle.lc_spec_text.proofs.branch.read_branch.Goals as goal
use Rattle.lc_reading.proofs.Results.{misfit_told}

pub returns-in_err-list : goal.returns-in_err-list
returns-in_err-list g c =
    let read = branch_parts_reading (columns_view c.args.columns) (g.S.Scope.names c.args.scope.now) c.args.count in
    misfit_told branch_of _ c.in_err-list.field-0.0 _ (ap (mapped the_branch) (behind_reading-err (codes "branch") read c.args.part c.in_err-list.field-0.0 c.in_err-list.ensures)) c.from_residual.ensures.1

pub returns : goal.returns
returns g c =
    let read = branch_parts_reading (columns_view c.args.columns) (g.S.Scope.names c.args.scope.now) c.args.count in
    let l = c.in_ok-list.list in
    subst (λ r. IsReading branch_of (mapped the_branch r) c.made_branch.result) (sym (behind_reading-is (codes "branch") read c.args.part l c.in_ok-list.ensures))
    (c.made_branch.ensures (read (owner_of l) (number_of l) (rest_of l)) c.read_branch_parts.ensures)
