use mir.Val.{to_z, of_z}
use Rattle.std.proofs.Common.{◌≡◌, ◌≤◌, length, arith, ◌++◌, ap, ◌∙◌, w64}
use Rattle.std.proofs.lemmas.Bool.Decides.{nat_tests}
use Rattle.std.proofs.lemmas.Int.{to_z-of_z}
use Rattle.lc_term.specs.Updates.{cell_writes}
use Rattle.lc_term.specs.UpdateView.{writes_view}
use Rattle.lc_ride.proofs.Cells.{numbers_of, writes-end}
use Rattle.lc_ride.proofs.marks.push_writes.Goals as goal

pub returns-in_default : goal.returns-in_default
returns-in_default c =
    let test = c.in_default.ensures.lookup.0 in
    let past : length c.args.numbers.now ≤ c.loop-i.i = grind (arith, nat_tests) in
    let front = writes_view c.args.writes.now.items in
    let columns = numbers_of c.args.columns.now in
    let index = to_z w64 (of_z w64 c.args.index) in
    let same : to_z w64 (of_z w64 c.args.index) ≡ c.args.index = to_z-of_z w64 c.args.index c.ranges.index in
    writes-end c.args.columns.now c.args.numbers.now index c.loop-i.i (writes_view c.loop-i.writes.items) (front ++ cell_writes columns index c.args.numbers.now) past c.loop-i.invariant ∙
    ap (λ x. front ++ cell_writes columns x c.args.numbers.now) same
