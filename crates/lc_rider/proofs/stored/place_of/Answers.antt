use Rattle.std.proofs.Common.{◌∙◌, sym}
use Rattle.lc_rider.proofs.Placed.{first_here, none_more, none_all}
use Rattle.lc_rider.proofs.stored.place_of.Goals as goal

pub returns-then-eq-clause-some : goal.returns-then-eq-clause-some
returns-then-eq-clause-some c =
    first_here c.args.columns.now c.loop-place.place c.args.column.0 _ c.loop-place-test.true (sym c.eq.ensures ∙ c.if-eq.true) c.loop-place.invariant

pub loop-place-preserved : goal.loop-place-preserved
loop-place-preserved c = none_more c.args.columns.now c.loop-place.place c.args.column.0 _ c.loop-place-test.true (sym c.eq.ensures ∙ c.if-eq.false) c.loop-place.invariant

pub returns-clause-none : goal.returns-clause-none
returns-clause-none c = none_all c.args.columns.now c.loop-place.place c.args.column.0 c.loop-place-test.false c.loop-place.invariant
