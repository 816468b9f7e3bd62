use Rattle.std.proofs.Common.{◌∙◌, ap, sym, subst, Some, None}
use Rattle.std.specs.Prelude.{pos, unwrap_or, option_map, FitsSigned}
use Rattle.std.specs.Int.{w128}
use Rattle.lc_linear.specs.LinForm.{numbers}
use Rattle.lc_linear.proofs.Atoms.{atom_place}
use Rattle.lc_linear.proofs.Entries.{coefficient_in-lookup}
use Rattle.lc_linear.proofs.Numbers.{wide_number_kept}
use Rattle.lc_linear.proofs.form.LinForm.atom_at.Goals as goal

pub returns-in-Some : goal.returns-in-Some
returns-in-Some c =
    let es = c.args.self.now.coefficients.entries in
    let a = c.in-Some.atom.now in
    let is = sym (coefficient_in-lookup a es) ∙ ap (λ o. unwrap_or o (pos 0)) c.in-Some.ensures.value in
    let fits : FitsSigned w128 c.in-Some.coefficient.now = subst (FitsSigned w128) is (c.args.self.now.fits a) in
    let here = atom_place es c.args.place (Some (a, c.in-Some.coefficient.now)) c.in-Some.ensures.entry in
    sym (ap (option_map (λ k. (k, numbers c.args.self.now (Some k)))) here ∙ ap (λ n. Some (a, n)) (is ∙ sym (wide_number_kept _ fits)))

pub returns-in-None : goal.returns-in-None
returns-in-None c = sym (ap (option_map (λ k. (k, numbers c.args.self.now (Some k)))) (atom_place c.args.self.now.coefficients.entries c.args.place None c.in-None.ensures.entry))
