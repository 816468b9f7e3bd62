use Rattle.std.proofs.Common.{◌≡◌, ◌∷◌, length, true, sym, ap, ◌∙◌, slice_get, arith, rules}
use Rattle.json.specs.Token.{Token}
use Rattle.lc_seq.specs.SpecView.{text_call_of, choice_of}
use Rattle.lc_hist.specs.JsonSeen.{all_of}
use Rattle.lc_hist.specs.JsonValues.{has_replies}
use Rattle.lc_hist.proofs.JsonRows.{entry_read}
use Rattle.lc_hist.proofs.token_rows.next_entry.Goals as goal

pub returns : goal.returns
returns c =
    let operations = all_of c.args.operations.now in
    let call = text_call_of c.in-Some-2.call in
    let reply = c.in-Some-3.reply.items in
    let called = rw c.in-Some-2.is at c.in_ok-call.ensures in
    let answered = rw c.in-Some-3.is at c.in_ok-reply.ensures in
    let picked = rw c.in-Some-4.is at c.in_ok-choice.ensures in
    let opens : c.args.reader.now ≡ Token.begin_array ∷ c.begins_array.new.self = grind arith in
    let same : length reply ≡ c.len.result = search rules in
    let counted : has_replies (slice_get operations call.op) (length reply) ≡ true = ap (has_replies (slice_get operations call.op)) same ∙ sym c.has_replies.ensures ∙ c.if-not-has_replies.false in
    entry_read operations c.args.reader.now c.begins_array.new.self c.in-Some.client c.next_client.new.self call c.next_call.new.reader reply c.next_numbers.new.reader (choice_of c.in-Some-4.choice) c.next_pick.new.reader opens
    c.in-Some.ensures called answered counted picked
