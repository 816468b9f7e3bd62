use Rattle.std.proofs.Common.{◌≡◌, ◌∷◌, Some, sym, subst, arith, rules}
use Rattle.json.specs.Json.{after_end_array}
use Rattle.json.specs.Token.{Token}
use Rattle.serde_json.specs.Find.{as_str}
use Rattle.lc_hist.specs.JsonTokens.{Says}
use Rattle.lc_hist.specs.JsonSeen.{all_of}
use Rattle.lc_hist.proofs.JsonRows.{pick_read}
use Rattle.lc_hist.proofs.token_rows.next_named_pick.Goals as goal

pub returns : goal.returns
returns c =
    let said = rw c.in-Some-2.is at c.in_ok-numbers.ensures in
    let has = c.in-Some-choice.ensures c.in-Some-2.numbers.items (search rules) in
    let same = has.0 in
    let between = c.next_numbers.new.reader in
    let rest = c.take_end_array.new.self in
    let opens : c.args.reader.now ≡ Token.begin_array ∷ c.begins_array.new.self = grind arith in
    let ends : after_end_array between ≡ Some rest = grind arith in
    let text = c.in-Ok.text.now in
    let spelled : text ≡ c.in-Some.text.now = grind arith in
    let name : Says 0 as_str c.begins_array.new.self text c.next_text.new.self = subst (λ t. Says 0 as_str c.begins_array.new.self t c.next_text.new.self) (sym spelled) c.in-Some.ensures in
    rw same
    (pick_read (all_of c.args.operations.now) c.args.op.0 c.args.reader.now c.begins_array.new.self text c.next_text.new.self c.in-Some-2.numbers.items between rest opens name said has.1 ends)
