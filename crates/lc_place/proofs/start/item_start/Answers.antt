use Rattle.std.proofs.Common.{false, take, drop, refl, sym, ap, ◌∙◌, arith}
use Rattle.lc_sexp.specs.Reads.{text_of}
use Rattle.lc_place.proofs.Texts.{step_text, text_outside_comment}
use Rattle.lc_place.proofs.Tokens.{ends_in, ends_more}
use Rattle.lc_place.proofs.Items.{counts_one, counts_none, numbered_item_begins, more_items, no_more}
use Rattle.lc_place.proofs.start.item_start.Goals as goal

pub loop-at-preserved-then-not-begins : goal.loop-at-preserved-then-not-begins
loop-at-preserved-then-not-begins c =
    let v = c.loop-at.invariant in
    let r = c.next_byte-seen.result in
    let next = c.next_byte-seen.new.in_comment in
    let s = step_text c.args.bytes.now c.loop-at.at 0 r c.loop-at.in_comment next c.loop-at-test.true v.text c.next_byte-seen.ensures in
    record {
      text = s.rest;
      word = ap (ends_in false) s.read ∙ ends_more false (take c.loop-at.at (text_of c.args.bytes.now)) r ∙ sym c.is_letter-in_word.ensures;
      count = counts_none c.args.bytes.now c.loop-at.at r c.args.number c.loop-at.left next c.loop-at.in_word s v.word (sym c.begins_item-begins.ensures ∙ c.if-not-begins.true) v.count;
    }

pub loop-at-preserved : goal.loop-at-preserved
loop-at-preserved c =
    let v = c.loop-at.invariant in
    let r = c.next_byte-seen.result in
    let next = c.next_byte-seen.new.in_comment in
    let s = step_text c.args.bytes.now c.loop-at.at 0 r c.loop-at.in_comment next c.loop-at-test.true v.text c.next_byte-seen.ensures in
    let some = c.if-left-eq0.false in
    record {
      text = s.rest;
      word = ap (ends_in false) s.read ∙ ends_more false (take c.loop-at.at (text_of c.args.bytes.now)) r ∙ sym c.is_letter-in_word.ensures;
      count = counts_one c.args.bytes.now c.loop-at.at r c.args.number c.loop-at.left next c.loop-at.in_word s v.word (sym c.begins_item-begins.ensures ∙ c.if-not-begins.false) v.count (omega arith);
    }

pub returns-then-left-eq0-clause-begins : goal.returns-then-left-eq0-clause-begins
returns-then-left-eq0-clause-begins c =
    let v = c.loop-at.invariant in
    let r = c.next_byte-seen.result in
    let next = c.next_byte-seen.new.in_comment in
    let s = step_text c.args.bytes.now c.loop-at.at 0 r c.loop-at.in_comment next c.loop-at-test.true v.text c.next_byte-seen.ensures in
    numbered_item_begins c.args.bytes.now c.loop-at.at r c.args.number c.loop-at.left next c.loop-at.in_word s v.word (sym c.begins_item-begins.ensures ∙ c.if-not-begins.false) v.count c.if-left-eq0.true

pub returns-then-left-eq0-clause-outside : goal.returns-then-left-eq0-clause-outside
returns-then-left-eq0-clause-outside c =
    let v = c.loop-at.invariant in
    let r = c.next_byte-seen.result in
    let next = c.next_byte-seen.new.in_comment in
    let s = step_text c.args.bytes.now c.loop-at.at 0 r c.loop-at.in_comment next c.loop-at-test.true v.text c.next_byte-seen.ensures in
    let b = numbered_item_begins c.args.bytes.now c.loop-at.at r c.args.number c.loop-at.left next c.loop-at.in_word s v.word (sym c.begins_item-begins.ensures ∙ c.if-not-begins.false) v.count c.if-left-eq0.true in
    text_outside_comment c.loop-at.in_comment (drop c.loop-at.at (text_of c.args.bytes.now)) (drop c.loop-at.at c.args.bytes.now) v.text b.begins

pub returns-then-left-eq0-clause-none : goal.returns-then-left-eq0-clause-none
returns-then-left-eq0-clause-none c =
    let v = c.loop-at.invariant in
    let r = c.next_byte-seen.result in
    let next = c.next_byte-seen.new.in_comment in
    let s = step_text c.args.bytes.now c.loop-at.at 0 r c.loop-at.in_comment next c.loop-at-test.true v.text c.next_byte-seen.ensures in
    let b = numbered_item_begins c.args.bytes.now c.loop-at.at r c.args.number c.loop-at.left next c.loop-at.in_word s v.word (sym c.begins_item-begins.ensures ∙ c.if-not-begins.false) v.count c.if-left-eq0.true in
    (λ h. absurd (cc), λ le. absurd (more_items c.args.bytes.now c.args.number c.loop-at.at b le))

pub returns-clause-none : goal.returns-clause-none
returns-clause-none c =
    let le = c.loop-at-test.false in
    (λ h. no_more c.args.bytes.now c.loop-at.at c.args.number c.loop-at.left (omega arith) c.loop-at.invariant.count, λ h. refl)
