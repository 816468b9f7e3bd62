use Rattle.std.proofs.Common.{sym, arith}
use Rattle.lc_reading.proofs.Places.{place_below}
use Rattle.lc_reading.specs.TableView.{listed}
use Rattle.lc_proof_text.proofs.names.InClaimScope.variable.Goals as goal

pub overflow_cast-result : goal.overflow_cast-result
overflow_cast-result c =
    let declared = c.args.self.now.0.now in
    omega (arith, place_below (listed declared.variables) c.args.name.now c.in_ok-place.place (sym c.in_ok-place.ensures), declared.few_variables)
