use Rattle.std.proofs.Common.{sym, subst}
use Rattle.std.specs.Prelude.{codes}
use Rattle.lc_sexp.specs.Shown.{rest_of, number_of, owner_of}
use Rattle.lc_reading.proofs.Sections.{behind_reading-is}
use Rattle.lc_reading.specs.Readings.{mapped}
use Rattle.lc_reading.specs.Results.{IsReading}
use Rattle.lc_reading.specs.TableView.{listed}
use Rattle.lc_seq.specs.SpecView.{branch_of}
use Rattle.lc_spec_text.specs.Choices.{the_choice, choice_parts_reading}
use Rattle.lc_spec_text.specs.ScopeView.{columns_view}
use Rattle.lc_spec_text.proofs.choice.read_choice.Goals as goal

pub returns : goal.returns
returns c =
    let read = choice_parts_reading (columns_view c.args.columns) (listed c.args.variables.now) c.args.count (listed c.args.before.now) in
    let l = c.in_ok-list.list in
    subst (λ r. IsReading branch_of (mapped the_choice r) c.made_choice.result) (sym (behind_reading-is (codes "choice") read c.args.part l c.in_ok-list.ensures))
    (c.made_choice.ensures (read (owner_of l) (number_of l) (rest_of l)) c.read_choice_parts.ensures)
