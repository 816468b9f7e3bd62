use Rattle.std.proofs.Common.{◌≡◌, codes, refl, arith, rules}
use Rattle.lc_seq.specs.SpecView.{text_call_of}
use Rattle.lc_hist.specs.JsonSeen.{all_of}
use Rattle.lc_hist.proofs.JsonRows.{deed_call, deed_return}
use Rattle.lc_hist.proofs.token_rows.next_deed.Goals as goal

pub returns-in-Some-3 : goal.returns-in-Some-3
returns-in-Some-3 c =
    let said = rw c.in-Some-3.is at c.in_ok-call-in-Some.ensures in
    let same = c.if-are_same.ensures.same refl in
    let is : c.in-Some.word.now ≡ codes "call" = first_of (cc, grind arith, search rules) in
    deed_call (all_of c.args.operations.now) c.args.client c.args.reader.now c.in-Some.word.now c.next_text.new.self (text_call_of c.in-Some-3.call) c.next_call.new.reader c.in-Some.ensures is said

pub returns-in-Some-4 : goal.returns-in-Some-4
returns-in-Some-4 c =
    let said = rw c.in-Some-4.is at c.in_ok-numbers-in-Some-2.ensures in
    let same = c.if-are_same-2.ensures.same refl in
    let is : c.in-Some-2.word.now ≡ codes "return" = first_of (cc, grind arith, search rules) in
    deed_return (all_of c.args.operations.now) c.args.client c.args.reader.now c.in-Some-2.word.now c.next_text.new.self c.in-Some-4.numbers.items c.next_numbers.new.reader c.in-Some-2.ensures is said
