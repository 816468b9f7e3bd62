use Rattle.std.proofs.Common.{◌++◌, length-append, sym, arith}
use Rattle.lc_reading.proofs.Places.{place_below}
use Rattle.lc_reading.specs.TableView.{listed}
use Rattle.lc_spec_text.proofs.scope.InBranchScope.variable.Goals as goal

pub overflow_cast-result : goal.overflow_cast-result
overflow_cast-result c =
    let s = c.args.self.now in
    let vs = listed s.variables.now in
    let ps = listed s.parameters in
    omega (arith, place_below (vs ++ ps) c.args.name.now c.in-Some.place (sym c.in-Some.ensures), length-append vs ps, s.counted)

pub overflow_add-result : goal.overflow_add-result
overflow_add-result c =
    let s = c.args.self.now in
    let vs = listed s.variables.now in
    let ps = listed s.parameters in
    omega (arith, place_below (vs ++ ps) c.args.name.now c.in-Some.place (sym c.in-Some.ensures), length-append vs ps, s.counted)
