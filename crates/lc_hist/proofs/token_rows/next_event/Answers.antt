use Rattle.std.proofs.Common.{◌≡◌, ◌∷◌, Some, arith}
use Rattle.json.specs.Json.{after_end_array}
use Rattle.json.specs.Token.{Token}
use Rattle.lc_hist.specs.JsonSeen.{all_of}
use Rattle.lc_history.specs.View.{event_of}
use Rattle.lc_hist.proofs.JsonRows.{event_read}
use Rattle.lc_hist.proofs.token_rows.next_event.Goals as goal

pub returns : goal.returns
returns c =
    let deed = rw c.in-Some-2.is at c.in_ok-event.ensures in
    let between = c.next_deed.new.reader in
    let rest = c.take_end_array.new.self in
    let opens : c.args.reader.now ≡ Token.begin_array ∷ c.begins_array.new.self = grind arith in
    let ends : after_end_array between ≡ Some rest = grind arith in
    event_read (all_of c.args.operations.now) c.args.reader.now c.begins_array.new.self c.in-Some.client c.next_client.new.self (event_of c.in-Some-2.event) between rest opens c.in-Some.ensures deed ends
