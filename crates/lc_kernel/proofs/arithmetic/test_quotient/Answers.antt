use Rattle.std.proofs.Common.{◌≡◌, rules, sym, subst, Err, to_z, of_z}
use mir.Syntax.{w64}
use Rattle.lc_linear.specs.Divided.{Divides, IsDivided}
use Rattle.lc_linear.specs.LinForm.{numbers}
use Rattle.lc_term.specs.Syntax.{Subtract}
use Rattle.lc_table.specs.Tables.{term_in, formula_in}
use Rattle.lc_kernel.specs.Answers.{TestsQuotient}
use Rattle.lc_kernel.specs.declared.fault.StepFault.TheVariants.{Flawed}
use Rattle.lc_kernel.specs.declared.reason.Flaw.TheVariants.{Bad}
use Rattle.lc_kernel.specs.declared.reason.Reason.TheVariants.{NotDivisible}
use Rattle.lc_kernel.proofs.Quotients.{not_divisible, wrong_quotient, right_quotient}
use Rattle.lc_kernel.proofs.arithmetic.test_quotient.Goals as goal

pub returns-in_err-rounded : goal.returns-in_err-rounded
returns-in_err-rounded c =
    let ts = c.args.terms.now in
    let k : to_z w64 (of_z w64 c.args.divisor) ≡ c.args.divisor = search rules in
    let t = Subtract (term_in ts c.args.left) (term_in ts c.args.right) in
    let e : c.from_residual-in_err-rounded.result ≡ Err (Flawed (Bad NotDivisible)) = search rules in
    let refused = subst (λ n. Divides n (numbers c.in_ok-form.form) → ⊥) k c.in_err-rounded.ensures.1 in
    subst (TestsQuotient (formula_in ts c.args.quotient) t c.args.divisor) (sym e)
    (not_divisible ts t c.args.divisor c.in_ok-form.form c.in_ok-form.ensures.1 (formula_in ts c.args.quotient) c.in_ok-claimed.claimed c.in_ok-form.ensures.0 c.in_ok-claimed.ensures refused)

pub returns-then-not-is_claimed : goal.returns-then-not-is_claimed
returns-then-not-is_claimed c =
    let ts = c.args.terms.now in
    let k : to_z w64 (of_z w64 c.args.divisor) ≡ c.args.divisor = search rules in
    let t = Subtract (term_in ts c.args.left) (term_in ts c.args.right) in
    let divided = subst (λ n. IsDivided (numbers c.in_ok-form.form) n (numbers c.in_ok-rounded.rounded)) k c.in_ok-rounded.ensures in
    wrong_quotient ts t c.args.divisor c.in_ok-form.form c.in_ok-form.ensures.1 (formula_in ts c.args.quotient) c.in_ok-rounded.rounded c.in_ok-claimed.claimed c.in_ok-form.ensures.0 c.in_ok-claimed.ensures divided (search rules)

pub returns : goal.returns
returns c =
    let ts = c.args.terms.now in
    let k : to_z w64 (of_z w64 c.args.divisor) ≡ c.args.divisor = search rules in
    let t = Subtract (term_in ts c.args.left) (term_in ts c.args.right) in
    let divided = subst (λ n. IsDivided (numbers c.in_ok-form.form) n (numbers c.in_ok-rounded.rounded)) k c.in_ok-rounded.ensures in
    right_quotient ts t c.args.divisor c.in_ok-form.form c.in_ok-form.ensures.1 (formula_in ts c.args.quotient) c.in_ok-rounded.rounded c.in_ok-claimed.claimed c.in_ok-form.ensures.0 c.in_ok-claimed.ensures divided (search rules)
