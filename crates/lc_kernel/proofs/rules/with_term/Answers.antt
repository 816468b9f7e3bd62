use Rattle.std.proofs.Common.{sym, subst}
use Rattle.std.specs.Prelude.{IsTrue}
use Rattle.lc_term.specs.Places.{is_closed}
use Rattle.lc_table.specs.Tables.{term_in, formula_in}
use Rattle.lc_term.proofs.Closed.{closed_open_fits}
use Rattle.lc_table.proofs.Later.{term_is}
use Rattle.lc_kernel.proofs.rules.with_term.Goals as goal

pub instantiate-requires-clause-fits : goal.instantiate-requires-clause-fits
instantiate-requires-clause-fits c =
    let now = c.enter_term.new.self in
    let tree = term_is now c.in_ok-put.put _ c.in_ok-put.ensures.id in
    closed_open_fits (term_in now c.in_ok-put.put) (subst (λ t. IsTrue (is_closed t)) (sym tree) c.requires.closed) (formula_in now c.args.body)
