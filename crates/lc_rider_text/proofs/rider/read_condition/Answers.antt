use Rattle.std.proofs.Common.{◌≡◌, true, false}
use Rattle.lc_reading.specs.Parts.{tree_of, place_of}
use Rattle.lc_term.specs.View.{formula_of}
use Rattle.lc_rider_text.proofs.Ground.{quiet_ground}
use Rattle.lc_rider_text.proofs.rider.read_condition.Goals as goal

pub unreachable-requires : goal.unreachable-requires
unreachable-requires g c =
    let ground = quiet_ground (g.S.Scope.names c.args.scope.now) (place_of c.args.part) (tree_of c.args.part) (formula_of c.in_ok-formula.formula) c.in_ok-formula.ensures in
    let wrong : false ≡ true = c.in-None.ensures.some.1 ground in
    cc
