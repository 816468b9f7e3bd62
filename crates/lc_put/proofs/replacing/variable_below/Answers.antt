use Rattle.std.proofs.Common.{Some, ap, sym, ◌∙◌}
use Rattle.std.proofs.lemmas.Result.{IfOk-weaker}
use Rattle.lc_table.specs.Nodes.{term as term_part}
use Rattle.lc_put.specs.Put.{replacement_of}
use Rattle.lc_term.specs.Substitution.{shifted_term}
use Rattle.lc_table.proofs.Later.{term_is}
use Rattle.lc_term.proofs.Under.{under_many-variable}
use Rattle.lc_put.proofs.replacing.variable_below.Goals as goal

pub returns-clause-id : goal.returns-clause-id
returns-clause-id c =
    let r = replacement_of c.args.put.now in
    let put = term_is c.enter_put_variable.new.table _ _ c.in_ok-term.ensures.id in
    IfOk-weaker c.raised.result _ _
    (λ k h. h ∙ ap (λ x. Some (term_part (shifted_term c.args.depth 0 x))) put ∙ ap (λ x. Some (term_part x)) (sym (under_many-variable c.args.depth r c.args.number)))
    c.raised.ensures.id
