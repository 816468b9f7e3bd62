use Rattle.std.proofs.Common.{ap, ◌∙◌, arith}
use Rattle.lc_place.proofs.Texts.{step_text, read_all}
use Rattle.lc_place.proofs.Depths.{opens, closes, opens_step, closes_step}
use Rattle.lc_place.proofs.open.brackets_of.Goals as goal

pub loop-byte-preserved : goal.loop-byte-preserved
loop-byte-preserved c =
    let v = c.loop-byte.invariant in
    let r = c.next_byte-seen.result in
    let next = c.next_byte-seen.new.in_comment in
    let s = step_text c.args.bytes.now c.loop-byte.byte-index 0 r c.loop-byte.in_comment next c.loop-byte-test.true v.text c.next_byte-seen.ensures in
    let one = c.counted-opened.ensures in
    let two = c.counted-closed.ensures in
    record {
      text = s.rest;
      opened = omega (arith, v.opened, opens_step c.args.bytes.now c.loop-byte.byte-index r next s, one);
      closed = omega (arith, v.closed, closes_step c.args.bytes.now c.loop-byte.byte-index r next s, two);
    }

pub returns-clause-opened : goal.returns-clause-opened
returns-clause-opened c = let le = c.loop-byte-test.false in c.loop-byte.invariant.opened ∙ ap opens (read_all c.args.bytes.now c.loop-byte.byte-index (omega arith)).0

pub returns-clause-closed : goal.returns-clause-closed
returns-clause-closed c = let le = c.loop-byte-test.false in c.loop-byte.invariant.closed ∙ ap closes (read_all c.args.bytes.now c.loop-byte.byte-index (omega arith)).0
