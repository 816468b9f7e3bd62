use Rattle.std.proofs.Common.{length, refl, arith}
use Rattle.lc_place.proofs.Texts.{step_text}
use Rattle.lc_place.proofs.Depths.{under_way_more, closed_here, open_to_end}
use Rattle.lc_place.proofs.span.list_length.Goals as goal

pub returns-then-depth-eq0 : goal.returns-then-depth-eq0
returns-then-depth-eq0 c =
    let v = c.loop-at.invariant in
    let r = c.next_byte-seen.result in
    let next = c.next_byte-seen.new.in_comment in
    let s = step_text c.args.bytes.now c.loop-at.at 0 r c.loop-at.in_comment next c.loop-at-test.true v.text c.next_byte-seen.ensures in
    closed_here c.args.bytes.now c.loop-at.at r c.loop-at.depth c.depth_behind-depth.result next s c.requires v.under_way c.depth_behind-depth.ensures c.if-depth-eq0.true

pub loop-at-preserved : goal.loop-at-preserved
loop-at-preserved c =
    let v = c.loop-at.invariant in
    let r = c.next_byte-seen.result in
    let next = c.next_byte-seen.new.in_comment in
    let s = step_text c.args.bytes.now c.loop-at.at 0 r c.loop-at.in_comment next c.loop-at-test.true v.text c.next_byte-seen.ensures in
    let some = c.if-depth-eq0.false in
    record {
      text = s.rest;
      under_way = under_way_more c.args.bytes.now c.loop-at.at r c.loop-at.depth c.depth_behind-depth.result next s c.requires v.under_way c.depth_behind-depth.ensures (omega arith);
    }

pub returns : goal.returns
returns c =
    let le = c.loop-at-test.false in
    open_to_end c.args.bytes.now c.loop-at.at c.loop-at.depth (length c.args.bytes.now) (omega arith) refl c.loop-at.invariant.under_way
