use Rattle.std.proofs.Common.{◌+◌, ◌-◌, ◌/◌, ◌<◌, length, arith}
use Rattle.lc_cond.proofs.Numbered.{first_at, place_found}
use Rattle.lc_cond.proofs.numbering.Numbering.place_with.Goals as goal

pub loop-low-preserved-then-index-number : goal.loop-low-preserved-then-index-number
loop-low-preserved-then-index-number c =
    let ns = c.args.self.now.firsts.items in
    let middle = c.loop-low.low + (c.loop-low.high - c.loop-low.low) / 2 in
    let test = c.loop-low-test.true in
    let within = c.loop-low.invariant.within in
    let small = c.if-index-number.true in
    let lt : middle < length ns = omega (arith, test, within) in
    record {
      order = omega (arith, test);
      within = within;
      low = λ D h. (let at = first_at D ns middle c.index.result.now h.firsts_are lt c.index.ensures in omega (arith, at, small));
      high = c.loop-low.invariant.high;
    }

pub loop-low-preserved : goal.loop-low-preserved
loop-low-preserved c =
    let ns = c.args.self.now.firsts.items in
    let middle = c.loop-low.low + (c.loop-low.high - c.loop-low.low) / 2 in
    let test = c.loop-low-test.true in
    let within = c.loop-low.invariant.within in
    let large = c.if-index-number.false in
    let lt : middle < length ns = omega (arith, test, within) in
    record {
      order = omega (arith, test);
      within = omega (arith, lt);
      low = c.loop-low.invariant.low;
      high = λ D h below end. (let at = first_at D ns middle c.index.result.now h.firsts_are lt c.index.ensures in omega (arith, at, large));
    }

pub returns : goal.returns
returns c = λ D h below.
    let test = c.loop-low-test.false in
    let each = h.each in
    place_found D c.loop-low.low c.loop-low.high c.args.number c.loop-low.invariant.order (omega (arith, test)) (c.loop-low.invariant.low D h)
    (λ end. c.loop-low.invariant.high D h below (omega (arith, end, each))) below
