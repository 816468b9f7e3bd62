use Rattle.std.proofs.Common.{rules, ◌≡◌, ◌++◌, [], ◌∷◌, subst, sym}
use Rattle.lc_table.proofs.Later.{kept_on}
use Rattle.lc_cond.specs.Adding.{HasFormulas}
use Rattle.lc_cond.proofs.Adding.{formulas_put}
use Rattle.lc_cond.proofs.Replacing.{conjuncts_more}
use Rattle.lc_cond.proofs.entering.entered_conjuncts.Goals as goal

pub loop-conjunct-preserved : goal.loop-conjunct-preserved
loop-conjunct-preserved c =
    let now = c.enter_formula.new.self in
    let k = c.in_ok-enter_formula.field-0 in
    let items : c.push.new.self.items ≡ c.loop-conjunct.numbers.items ++ k ∷ [] = search rules in (
      kept_on c.args.terms.now c.loop-conjunct.terms now c.loop-conjunct.invariant.0 c.in_ok-enter_formula.ensures.kept,
      subst (HasFormulas now c.push.new.self.items) (sym (conjuncts_more c.args.conjuncts.now c.loop-conjunct.conjunct-index c.conjunct-item.result c.loop-conjunct-test.true c.conjunct-item.is))
          (formulas_put c.loop-conjunct.terms now c.loop-conjunct.numbers.items c.push.new.self.items k _ _ items c.loop-conjunct.invariant.1 c.in_ok-enter_formula.ensures.kept c.in_ok-enter_formula.ensures.id),
    )
