use Rattle.std.proofs.Common.{rules, get_or, ◌≡◌, ◌+◌, ◌*◌, max, ◌∙◌, ap, ap₂, sym, w64}
use Rattle.lc_table.specs.declared.node.FormulaId.{FormulaId}
use Rattle.std.specs.Prelude.{ℤ, pos, FitsSigned, unsigned_abs}
use Rattle.std.proofs.lemmas.Int.{to_z-of_z}
use Rattle.lc_linear.specs.Weight.{weight}
use Rattle.lc_linear.proofs.Sums.{get_or-any, combined-more}
use Rattle.lc_linear.proofs.closing.sum_weight.Goals as goal

pub loop-formula-preserved : goal.loop-formula-preserved
loop-formula-preserved c =
    let e : FormulaId × ℤ = get_or c.args.entries.now c.loop-formula.formula-index (record { 0 = 0 }, pos 0) in
    let f : FitsSigned w64 e.1 = search rules in
    let more = combined-more c.args.terms.now c.args.entries.now c.loop-formula.formula-index e c.loop-formula-test.true (get_or-any c.args.entries.now c.loop-formula.formula-index (record { 0 = 0 }, pos 0) e c.loop-formula-test.true) in
    let size : c.from-factor.result ≡ max (unsigned_abs e.1) 1 =
    c.from-factor.ensures ∙ c.max.ensures ∙ ap (λ n. max n 1) (c.unsigned_abs.ensures.value ∙ ap unsigned_abs (to_z-of_z w64 e.1 f)) in
    let product = c.in_ok-checked_mul.ensures.1 ∙ ap₂ ◌*◌ size c.in_ok-gap_weight.ensures in
    c.in_ok-sum.ensures.1 ∙ ap₂ ◌+◌ c.loop-formula.invariant product ∙ sym (ap weight more)
