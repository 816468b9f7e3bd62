use Rattle.std.proofs.Common.{rules}
use Rattle.std.specs.Prelude.{FitsSigned}
use Rattle.std.specs.Int.{w128}
use Rattle.lc_linear.proofs.Numbers.{kept_fits}
use Rattle.lc_linear.proofs.Quotients.{AllFit-set_value_at}
use Rattle.lc_linear.proofs.form.LinForm.divide_coefficient.Goals as goal

pub invariant_of-self : goal.invariant_of-self
invariant_of-self c =
    let fits : FitsSigned w128 c.in-Some.quotient = search rules in
    record { fits = AllFit-set_value_at c.args.self.now.coefficients.entries c.args.index _ (kept_fits _ fits) c.args.self.now.fits }
