use Rattle.std.proofs.Common.{refl}
use Rattle.lc_term.proofs.Closed.{closed_open_fits}
use Rattle.lc_term.specs.Syntax.{Number}
use Rattle.lc_term.specs.View.{formula_of}
use Rattle.lc_proof_state.proofs.instance.with_number.Goals as goal

pub instantiate-requires : goal.instantiate-requires
instantiate-requires c = closed_open_fits (Number c.args.number) refl (formula_of c.args.body.now)
