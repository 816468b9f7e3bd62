use Rattle.std.proofs.Common.{◌++◌, sym, length-append, arith}
use Rattle.lc_sexp.specs.Shown.{rest_of}
use Rattle.lc_reading.specs.Listed.{names_among}
use Rattle.lc_reading.specs.TableView.{listed}
use Rattle.lc_reading.proofs.Places.{place_below}
use Rattle.lc_object_text.proofs.body_scope.InBodyScope.variable.Goals as goal

pub overflow_add-result : goal.overflow_add-result
overflow_add-result c =
    let b = c.args.self.now.body.now in
    let names = names_among (rest_of b.arguments) in
    omega (arith, place_below (names ++ listed b.locals) c.args.name.now c.in_ok-place.place (sym c.in_ok-place.ensures), length-append names (listed b.locals), b.few_variables)

pub overflow_cast-result : goal.overflow_cast-result
overflow_cast-result c =
    let b = c.args.self.now.body.now in
    let names = names_among (rest_of b.arguments) in
    omega (arith, place_below (names ++ listed b.locals) c.args.name.now c.in_ok-place.place (sym c.in_ok-place.ensures), length-append names (listed b.locals), b.few_variables)
