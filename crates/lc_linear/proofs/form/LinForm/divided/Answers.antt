use Rattle.std.proofs.Common.{rules, ◌≡◌, ◌∙◌, refl, sym, ap, length, arith}
use Rattle.std.specs.Prelude.{◌*ℤ◌, FitsSigned}
use Rattle.std.specs.Int.{w128}
use Rattle.std.proofs.lemmas.Bool.{false≢true}
use Rattle.std.proofs.lemmas.Int.{ints}
use Rattle.lc_table.specs.declared.node.TermId.{TermId}
use Rattle.lc_linear.specs.Numbered.{coefficient_in}
use Rattle.lc_linear.proofs.Division.{IsRoundedUp-same}
use Rattle.lc_linear.proofs.Numbers.{wide_number_kept, widened_number}
use Rattle.lc_linear.proofs.Quotients.{nothing_divided, one_more_divided, refused_here, all_divided, length-set_value_at}
use Rattle.lc_linear.proofs.form.LinForm.divided.Goals as goal
use Rattle.lc_linear.proofs.form.LinForm.divided.Goals.{After-loop-index}

pub loop-index-init : goal.loop-index-init
loop-index-init c = (nothing_divided _ _, sym c.len-index-end.ensures.len, refl)

pub returns-then-not-divide_coefficient-clause-found :
    goal.returns-then-not-divide_coefficient-clause-found
returns-then-not-divide_coefficient-clause-found c = (
  λ h. absurd (false≢true h),
  λ d.
      let k = widened_number c.args.divisor c.from-divisor.result c.ranges.divisor c.from-divisor.ensures in
      let none = refused_here _ c.args.self.coefficients.entries c.loop-index.quotient.coefficients.entries c.loop-index.index c.loop-index.invariant.0
      (omega (arith, c.loop-index.invariant.1)) c.len-index-end.ensures.unique (c.divide_coefficient.ensures.refused c.if-not-divide_coefficient.true) in
      let multiple = d.multiples none.0 in
      absurd (none.1 multiple.0 (multiple.1 ∙ ap (λ n. n *ℤ multiple.0) (sym k))),
)

pub loop-index-preserved : goal.loop-index-preserved
loop-index-preserved c =
    let now = c.loop-index.quotient.coefficients.entries in
    let here = c.divide_coefficient.ensures.divided c.if-not-divide_coefficient.false in (
      one_more_divided _ c.args.self.coefficients.entries now _ c.loop-index.index c.loop-index.invariant.0 (omega (arith, c.loop-index.invariant.1)) here,
      ap length here.replaced ∙ length-set_value_at now c.loop-index.index here.quotient ∙ c.loop-index.invariant.1,
      c.divide_coefficient.ensures.constant ∙ c.loop-index.invariant.2,
    )

-- the coefficients after the loop
quotients : (c : After-loop-index) → (a : TermId) → coefficient_in c.args.self.coefficients.entries a ≡ c.args.divisor *ℤ coefficient_in c.loop-index.quotient.coefficients.entries a
quotients c a =
    all_divided _ c.args.self.coefficients.entries c.loop-index.quotient.coefficients.entries c.loop-index.index c.loop-index.invariant.0 (omega (arith, c.loop-index.invariant.1, c.loop-index-test.false)) a ∙
    ap (λ n. n *ℤ coefficient_in c.loop-index.quotient.coefficients.entries a) (widened_number c.args.divisor c.from-divisor.result c.ranges.divisor c.from-divisor.ensures)

pub returns-clause-found : goal.returns-clause-found
returns-clause-found c = (λ h. record { positive = grind (arith, ints); multiples = λ a. (_, quotients (goal.at.returns-clause-found c).After-loop-index a) }, λ h. refl)

pub returns-clause-value : goal.returns-clause-value
returns-clause-value c =
    let before : FitsSigned w128 c.loop-index.quotient.constant = search rules in
    record {
      coefficients = quotients (goal.at.returns-clause-value c).After-loop-index;
      constant = IsRoundedUp-same _ _ _ _ _ _ (wide_number_kept _ before ∙ c.loop-index.invariant.2) (widened_number c.args.divisor c.from-divisor.result c.ranges.divisor c.from-divisor.ensures)
          (sym (wide_number_kept _ (record { sfits = c.rounded_up.type_inv }))) c.rounded_up.ensures;
    }
