use Rattle.std.proofs.Common.{rules, IsTrue}
use Rattle.lc_term.proofs.Closed.{closed_open_fits}
use Rattle.lc_term.specs.Places.{is_closed}
use Rattle.lc_term.specs.View.{term_of, formula_of}
use Rattle.lc_proof_state.proofs.rules.instantiated.Goals as goal

pub instantiate-requires : goal.instantiate-requires
instantiate-requires c =
    let closed : IsTrue (is_closed (term_of c.args.term.now)) = search rules in
    closed_open_fits (term_of c.args.term.now) closed (formula_of c.in-Some-for_all.body.now)
