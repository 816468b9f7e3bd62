use Rattle.std.proofs.Common.{sym, subst}
use Rattle.lc_reading.proofs.Combined.{both_read}
use Rattle.lc_reading.specs.Parts.{tree_of, place_of}
use Rattle.lc_reading.specs.Results.{IsReading}
use Rattle.lc_reading.specs.TableView.{listed}
use Rattle.lc_text.specs.Terms.{pair}
use Rattle.lc_spec_text.proofs.Parts.{operation_found}
use Rattle.lc_spec_text.specs.Operations.{arguments_reading}
use Rattle.lc_spec_text.specs.ScopeView.{columns_view}
use Rattle.lc_spec_text.specs.Seen.{signature_of, branches_of, operation_parts}
use Rattle.lc_spec_text.proofs.operation.read_operation_parts.Goals as goal

pub returns : goal.returns
returns c =
    let u = c.in_ok-arguments.arguments in
    subst (λ r. IsReading operation_parts r c.both.result)
    (sym (operation_found (columns_view c.args.columns) (listed c.args.before.now) c.args.list c.next_part.new.list c.next_part-2.new.list c.next_part-3.new.list c.next_part-4.new.list
    c.in_ok-name.name u c.in_ok-replies.replies c.in_ok-next_part.field-0 c.in_ok-name.ensures c.in_ok-arguments.ensures c.in_ok-replies.ensures c.in_ok-next_part.ensures))
    (rw c.both.ensures
    (both_read signature_of branches_of pair _ _ _ _ (c.read_signature-signature.ensures (arguments_reading (place_of u) (tree_of u)) c.in_ok-variables.ensures.read)
    (rw (c.count_in.ensures, c.in_ok-variables.ensures.variables) at c.read_ways-branches.ensures)))
