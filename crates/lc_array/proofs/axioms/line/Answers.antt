use Rattle.std.proofs.Common.{rules, ◌≡◌, ◌∙◌, ap, ap₂, Some}
use Rattle.std.proofs.lemmas.Result.{IfOk-weaker}
use Rattle.lc_table.specs.Nodes.{term as term_part}
use Rattle.lc_term.specs.Syntax as S
use Rattle.lc_table.specs.Tables.{term_in, HasTerm}
use Rattle.lc_table.proofs.Later.{term_is, term_later}
use Rattle.lc_array.proofs.axioms.line.Goals as goal

pub returns-clause-id : goal.returns-clause-id
returns-clause-id c =
    let now = c.number.new.self in
    let product : HasTerm c.multiply.new.self c.in_ok-product.product (S.Multiply c.args.slope (term_in c.args.terms.now c.args.index)) = search rules in
    let start : HasTerm now c.in_ok-start.start (S.Number c.args.start) = search rules in
    let first = term_is now _ _ (term_later _ now _ _ product c.in_ok-start.ensures.kept) in
    let second = term_is now _ _ start in
    IfOk-weaker c.add.result _ _ (λ k h. h ∙ ap (λ t. Some (term_part t)) (ap₂ S.Add first second)) c.add.ensures.id
