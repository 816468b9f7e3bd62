use Rattle.std.proofs.Common.{refl}
use Rattle.lc_term.proofs.Closed.{closed_open_fits}
use Rattle.lc_term.specs.Syntax.{Variable}
use Rattle.lc_term.specs.View.{formula_of}
use Rattle.lc_proof_state.proofs.rules.fresh.Goals as goal

pub instantiate-requires : goal.instantiate-requires
instantiate-requires c = closed_open_fits (Variable c.args.variables) refl (formula_of c.in-Some-for_some.body.now)
