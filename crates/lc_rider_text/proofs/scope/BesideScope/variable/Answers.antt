use Rattle.std.proofs.Common.{sym, arith}
use Rattle.lc_rider_text.proofs.Placed.{placed_short}
use Rattle.lc_rider_text.proofs.scope.BesideScope.variable.Goals as goal

pub overflow_cast-result : goal.overflow_cast-result
overflow_cast-result c =
    let variables = c.args.self.now.variables in
    omega (arith, placed_short variables.first variables.second c.in-Some.first c.args.name.now c.in_ok-place.place variables.few c.in-Some.is (sym c.in_ok-place.ensures))

pub overflow_add-result : goal.overflow_add-result
overflow_add-result c =
    let variables = c.args.self.now.variables in
    omega (arith, placed_short variables.first variables.second c.in-Some.first c.args.name.now c.in_ok-place.place variables.few c.in-Some.is (sym c.in_ok-place.ensures))
