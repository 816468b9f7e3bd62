use Rattle.std.proofs.Common.{◌≡◌, Some, subst, arith}
use Rattle.json.specs.Json.{after_end_array}
use Rattle.lc_seq.specs.SpecView.{choice_of}
use Rattle.lc_hist.specs.JsonSeen.{all_of}
use Rattle.lc_hist.specs.JsonTokens.{SayPick}
use Rattle.lc_hist.proofs.JsonRows.{named_pick}
use Rattle.lc_hist.proofs.token_rows.next_pick.Goals as goal

pub returns : goal.returns
returns c =
    let operations = all_of c.args.operations.now in
    let op = c.args.op.0 in
    let said = rw c.in-Some.is at c.in_ok-pick.ensures in
    let choice = choice_of c.in-Some.pick in
    let between = c.next_named_pick.new.reader in
    let rest = c.take_end_array-2.new.self in
    let same : c.take_end_array.new.self ≡ c.args.reader.now = grind arith in
    let ends : after_end_array between ≡ Some rest = grind arith in
    subst (λ ts. SayPick operations op ts choice rest) same (named_pick operations op c.take_end_array.new.self choice between rest said ends)
