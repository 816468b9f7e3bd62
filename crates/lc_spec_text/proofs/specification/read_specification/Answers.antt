use Rattle.std.proofs.Common.{sym, ap, subst}
use Rattle.std.specs.Prelude.{codes}
use Rattle.lc_sexp.specs.Shown.{rest_of, number_of, owner_of}
use Rattle.lc_reading.proofs.Listed.{behind_reading-err}
use Rattle.lc_reading.proofs.Sections.{behind_reading-is}
use Rattle.lc_reading.specs.Readings.{mapped}
use Rattle.lc_reading.specs.Results.{IsReading}
use Rattle.lc_reading.specs.TableView.{listed}
use Rattle.lc_seq.specs.TextView.{specification_of}
use Rattle.lc_spec_text.proofs.Resolved.{parts_resolved}
use Rattle.lc_spec_text.specs.Specifications.{the_specification, specification_parts_reading}
use Rattle.lc_spec_text.proofs.specification.read_specification.Goals as goal
use Rattle.lc_reading.proofs.Results.{misfit_told}

pub returns-in_err-list : goal.returns-in_err-list
returns-in_err-list c =
    let read = specification_parts_reading (listed c.args.others.now) in
    misfit_told specification_of _ c.in_err-list.field-0.0 _ (ap (mapped the_specification) (behind_reading-err (codes "spec") read c.args.part c.in_err-list.field-0.0 c.in_err-list.ensures)) c.from_residual.ensures.1

pub returns : goal.returns
returns c =
    let read = specification_parts_reading (listed c.args.others.now) in
    let l = c.in_ok-list.list in
    subst (λ r. IsReading specification_of (mapped the_specification r) c.made_specification.result) (sym (behind_reading-is (codes "spec") read c.args.part l c.in_ok-list.ensures))
    (c.made_specification.ensures (read (owner_of l) (number_of l) (rest_of l)) c.read_specification_parts.ensures)

pub made_specification-requires : goal.made_specification-requires
made_specification-requires c =
    let l = c.in_ok-list.list in
    parts_resolved (listed c.args.others.now) (owner_of l) (number_of l) (rest_of l) c.read_specification_parts.result c.read_specification_parts.ensures
