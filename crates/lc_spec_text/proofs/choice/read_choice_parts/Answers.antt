use Rattle.std.proofs.Common.{sym, subst}
use Rattle.lc_reading.proofs.Combined.{both_read}
use Rattle.lc_reading.specs.Parts.{tree_of, place_of}
use Rattle.lc_reading.specs.Results.{IsReading}
use Rattle.lc_reading.specs.TableView.{listed}
use Rattle.lc_text.specs.Terms.{pair}
use Rattle.lc_spec_text.proofs.Parts.{choice_found}
use Rattle.lc_spec_text.specs.Choices.{parameters_reading}
use Rattle.lc_spec_text.specs.ScopeView.{columns_view}
use Rattle.lc_spec_text.specs.Seen.{label_parts, branch_parts, choice_parts}
use Rattle.lc_spec_text.proofs.choice.read_choice_parts.Goals as goal

pub returns : goal.returns
returns c =
    let vs = listed c.args.variables.now in
    let b = c.in_ok-parameters.parameters in
    subst (λ r. IsReading choice_parts r c.both.result)
    (sym (choice_found (columns_view c.args.columns) vs c.args.count (listed c.args.before.now) c.args.list c.next_part.new.list c.next_part-2.new.list
    c.in_ok-name.name b c.in_ok-three.field-0 c.in_ok-name.ensures c.in_ok-parameters.ensures c.in_ok-three.ensures))
    (rw c.both.ensures
    (both_read label_parts branch_parts pair _ _ _ _ (c.read_label-label.ensures (parameters_reading vs (place_of b) (tree_of b)) c.in_ok-own.ensures.read)
    (rw (c.in_ok-scope.ensures.columns, c.in_ok-scope.ensures.variables, c.in_ok-own.ensures.parameters) at c.read_branch_parts-parts.ensures)))
