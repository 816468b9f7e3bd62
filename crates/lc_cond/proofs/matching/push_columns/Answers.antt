use Rattle.std.proofs.Common.{◌≡◌, refl, subst, arith}
use Rattle.lc_put.proofs.ByNumber.{are_columns_later}
use Rattle.lc_table.proofs.Later.{kept_on}
use Rattle.lc_cond.specs.Adding.{Adds}
use Rattle.lc_cond.specs.Conditions.{OfColumn, column_conditions}
use Rattle.lc_cond.specs.Heads.{condition_made}
use Rattle.lc_cond.proofs.Adding.{formulas_later, columns_later}
use Rattle.lc_cond.proofs.Columned.{columns_step}
use Rattle.lc_cond.proofs.matching.push_columns.Goals as goal

pub push_column-requires-clause-columns : goal.push_column-requires-clause-columns
push_column-requires-clause-columns c = are_columns_later c.args.terms.now c.loop-number.terms c.args.columns.now c.requires.columns c.loop-number.invariant.0

pub push_column-requires-clause-action : goal.push_column-requires-clause-action
push_column-requires-clause-action c = are_columns_later c.args.terms.now c.loop-number.terms c.args.action.now c.requires.action c.loop-number.invariant.0

pub loop-number-preserved : goal.loop-number-preserved
loop-number-preserved c =
    let t0 = c.args.terms.now in
    let t1 = c.loop-number.terms in
    let t2 = c.push_column.new.terms in
    let kept01 = c.loop-number.invariant.0 in
    let kept = c.in_ok-push_column.ensures.kept in
    let k = c.loop-number.number in (
      kept_on t0 t1 t2 kept01 kept,
      λ hs has σ columns π action. columns_step (λ k goal. condition_made c.args.head (OfColumn k) hs goal) σ π k k _ _
          c.args.conditions.now.items c.loop-number.conditions.items c.push_column.new.conditions.items t1 t2 refl refl refl
          (c.loop-number.invariant.1 hs has σ columns π action) kept
          (c.in_ok-push_column.ensures.list hs (formulas_later t0 t1 c.args.known.now hs has kept01) σ (columns_later t0 t1 c.args.columns.now σ columns kept01) π (columns_later t0 t1 c.args.action.now π action kept01)),
    )

pub returns-clause-list : goal.returns-clause-list
returns-clause-list c =
    let e : c.loop-number.number ≡ c.args.count = omega arith in
    λ hs has σ columns π action. subst
    (λ n. Adds c.args.conditions.now.items c.loop-number.terms c.loop-number.conditions.items
    (column_conditions (λ k goal. condition_made c.args.head (OfColumn k) hs goal) 0 n σ π)) e (c.loop-number.invariant.1 hs has σ columns π action)
