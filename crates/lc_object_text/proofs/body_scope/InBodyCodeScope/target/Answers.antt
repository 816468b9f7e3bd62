use Rattle.std.proofs.Common.{sym, arith}
use Rattle.lc_reading.specs.TableView.{listed}
use Rattle.lc_reading.proofs.Places.{place_below}
use Rattle.lc_object_text.proofs.body_scope.InBodyCodeScope.target.Goals as goal

pub overflow_add-variable-2 : goal.overflow_add-variable-2
overflow_add-variable-2 c =
    let b = c.args.self.now.body.now in
    omega (arith, place_below (listed b.locals) c.args.name.now c.in_ok-place.place (sym c.in_ok-place.ensures), b.few_variables)

pub overflow_cast-result : goal.overflow_cast-result
overflow_cast-result c =
    let b = c.args.self.now.body.now in
    omega (arith, place_below (listed b.locals) c.args.name.now c.in_ok-place.place (sym c.in_ok-place.ensures), b.few_variables)
