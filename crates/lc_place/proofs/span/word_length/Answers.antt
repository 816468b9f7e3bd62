use Rattle.std.proofs.Common.{length, refl, sym, ◌∙◌, arith}
use Rattle.lc_place.proofs.Spans.{word_more, word_ended, word_to_end}
use Rattle.lc_place.proofs.span.word_length.Goals as goal

pub returns-then-not-is_letter : goal.returns-then-not-is_letter
returns-then-not-is_letter c =
    word_ended c.args.bytes.now c.loop-at.at c.requires c.loop-at-test.true (sym c.is_letter.ensures ∙ c.if-not-is_letter.true) c.loop-at.invariant

pub loop-at-preserved : goal.loop-at-preserved
loop-at-preserved c = word_more c.args.bytes.now c.loop-at.at c.loop-at-test.true (sym c.is_letter.ensures ∙ c.if-not-is_letter.false) c.loop-at.invariant

pub returns : goal.returns
returns c =
    let le = c.loop-at-test.false in
    word_to_end c.args.bytes.now c.loop-at.at (length c.args.bytes.now) c.requires (omega arith) refl c.loop-at.invariant
