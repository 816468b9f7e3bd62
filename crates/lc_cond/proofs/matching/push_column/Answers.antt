use Rattle.std.proofs.Common.{ap, ◌∙◌}
use Rattle.std.proofs.lemmas.Result.{on_ok_weaker}
use Rattle.lc_put.proofs.ByNumber.{are_columns_later}
use Rattle.lc_table.proofs.Later.{kept_on, column_later, column_is, is_column_later}
use Rattle.lc_cond.proofs.Adding.{formulas_later, columns_later}
use Rattle.lc_cond.proofs.Columned.{column_absent, column_sides}
use Rattle.lc_cond.proofs.matching.push_column.Goals as goal

pub returns-then-are_absent-clause-list : goal.returns-then-are_absent-clause-list
returns-then-are_absent-clause-list c = λ hs has σ columns π action.
    column_absent c.args.head c.args.column.0 hs c.args.terms.now c.args.columns.now c.args.action.now σ π columns action (c.are_absent.ensures.left c.if-are_absent.true c.args.terms.now) (c.are_absent.ensures.right c.if-are_absent.true c.args.terms.now) c.args.conditions.now.items

pub stored_column-requires-2 : goal.stored_column-requires-2
stored_column-requires-2 c = are_columns_later c.args.terms.now c.stored_column.new.table c.args.action.now c.requires.action c.in_ok-left.ensures.kept

pub push_sides-requires-clause-left : goal.push_sides-requires-clause-left
push_sides-requires-clause-left c = is_column_later c.stored_column.new.table c.stored_column-2.new.table c.in_ok-left.left _ c.in_ok-left.ensures.id c.in_ok-right.ensures.kept

pub returns-clause-list : goal.returns-clause-list
returns-clause-list c =
    let t0 = c.args.terms.now in
    let t1 = c.stored_column.new.table in
    let t2 = c.stored_column-2.new.table in
    let kept01 = c.in_ok-left.ensures.kept in
    let kept12 = c.in_ok-right.ensures.kept in
    let left = column_is t2 c.in_ok-left.left _ (column_later t1 t2 c.in_ok-left.left _ c.in_ok-left.ensures.id kept12) in
    let right = column_is t2 c.in_ok-right.right _ c.in_ok-right.ensures.id in
    on_ok_weaker c.push_sides.result
    (λ list hs has σ columns π action.
    (let action1 = columns_later t0 t1 c.args.action.now π action kept01 in
    column_sides c.args.head c.args.column.0 hs c.args.conditions.now.items c.push_sides.new.conditions.items c.push_sides.new.terms _ _ σ π
    (left ∙ ap (λ ρ. ρ c.args.column.0) columns.columns) (right ∙ ap (λ ρ. ρ c.args.column.0) action1.columns)
    (list hs (formulas_later t0 t2 c.args.known.now hs has (kept_on t0 t1 t2 kept01 kept12))))) c.push_sides.ensures.list
