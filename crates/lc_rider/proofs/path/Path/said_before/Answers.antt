use Rattle.std.proofs.Common.{subst, IfOk}
use Rattle.lc_term.specs.Syntax.{Term}
use Rattle.lc_table.specs.Tables.{HasTerm}
use Rattle.lc_term.specs.View.{term_of}
use Rattle.lc_rider.proofs.Saying.{said_is}
use Rattle.lc_rider.proofs.path.Path.said_before.Goals as goal

pub returns-clause-id : goal.returns-clause-id
returns-clause-id c =
    subst (λ (t : Term). IfOk c.put_in_term.result (λ k. HasTerm c.put_in_term.new.table k t))
    (said_is c.args.terms.now c.enter_term.new.self c.args.self.now.columns.items c.deref.result.now c.args.variables.now c.requires.path.columns c.requires.variables c.enter_term.ensures.kept c.deref.ensures.value
    c.in_ok-term.term (term_of c.args.term.now) c.in_ok-term.ensures.id)
    c.put_in_term.ensures.id
