use Rattle.std.proofs.Common.{◌∷◌, [], if◌then◌else◌, sym, subst, ◌∙◌}
use Rattle.std.proofs.lemmas.Result.{on_ok_weaker}
use Rattle.lc_table.specs.Tables.{column_in}
use Rattle.lc_cond.specs.Adding.{Adds}
use Rattle.lc_cond.specs.Conditions.{OfColumn, same_column}
use Rattle.lc_cond.specs.Heads.{condition_made}
use Rattle.lc_cond.proofs.Adding.{formulas_later}
use Rattle.lc_cond.proofs.matching.push_sides.Goals as goal

pub returns-clause-list : goal.returns-clause-list
returns-clause-list c =
    let t0 = c.args.terms.now in
    let now = c.same_column.new.terms in
    on_ok_weaker c.push_one.result
    (λ made hs has. subst
    (λ b. Adds c.args.conditions.now.items now c.push_one.new.conditions.items
    (if b then [] else condition_made c.args.head (OfColumn c.args.column.0) hs (same_column (column_in t0 c.args.left) (column_in t0 c.args.right)) ∷ []))
    (sym (sym c.is_unwritten.ensures ∙ c.if-is_unwritten.false))
    (made now hs _ (formulas_later t0 now c.args.known.now hs has c.in_ok-goal.ensures.kept) c.in_ok-goal.ensures.id)) c.push_one.ensures
