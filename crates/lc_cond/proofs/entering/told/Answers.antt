use Rattle.std.proofs.Common.{rules, ◌≡◌, ◌++◌, [], ◌∷◌}
use Rattle.lc_table.proofs.Later.{kept_on}
use Rattle.lc_put.specs.Put.{replacement_of}
use Rattle.lc_cond.proofs.Replacing.{formula_at_later, told_more}
use Rattle.lc_cond.proofs.entering.told.Goals as goal

pub replace-requires-clause-formula : goal.replace-requires-clause-formula
replace-requires-clause-formula c =
    formula_at_later c.args.terms.now c.loop-formula.terms c.args.formulas.now c.loop-formula.formula-index (record { 0 = 0 }) c.requires.formulas c.loop-formula-test.true c.loop-formula.invariant.0

pub loop-formula-preserved : goal.loop-formula-preserved
loop-formula-preserved c =
    let now = c.replace.new.table in
    let k = c.in_ok-replace.field-0 in
    let items : c.push.new.self.items ≡ c.loop-formula.numbers.items ++ k ∷ [] = search rules in (
      kept_on c.args.terms.now c.loop-formula.terms now c.loop-formula.invariant.0 c.in_ok-replace.ensures.kept,
      c.in_ok-replace.ensures.done,
      told_more c.args.terms.now c.loop-formula.terms now (replacement_of c.args.put.now) c.args.formulas.now c.loop-formula.formula-index (record { 0 = 0 }) c.loop-formula.numbers.items c.push.new.self.items k
          c.loop-formula-test.true c.requires.formulas c.loop-formula.invariant.0 c.in_ok-replace.ensures.kept c.in_ok-replace.ensures.id items c.loop-formula.invariant.2,
    )
