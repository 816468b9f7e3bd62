use Rattle.std.proofs.Common.{Some, ap, sym, ◌∙◌}
use Rattle.std.proofs.lemmas.Result.{IfOk-weaker}
use Rattle.lc_table.specs.Nodes.{column as column_part}
use Rattle.lc_put.specs.Put.{replacement_of}
use Rattle.lc_term.specs.Replacement.{replace_column}
use Rattle.lc_term.specs.Substitution.{shifting}
use Rattle.lc_table.proofs.Later.{column_is}
use Rattle.lc_term.proofs.Under.{under_many-column}
use Rattle.lc_put.proofs.replacing.column_below.Goals as goal

pub returns-clause-id : goal.returns-clause-id
returns-clause-id c =
    let r = replacement_of c.args.put.now in
    let put = column_is c.enter_put_column.new.table _ _ c.in_ok-column.ensures.id in
    IfOk-weaker c.raised_column.result _ _
    (λ k h. h ∙ ap (λ x. Some (column_part (replace_column (shifting c.args.depth 0) x))) put ∙ ap (λ x. Some (column_part x)) (sym (under_many-column c.args.depth r c.args.column.0)))
    c.raised_column.ensures.id
