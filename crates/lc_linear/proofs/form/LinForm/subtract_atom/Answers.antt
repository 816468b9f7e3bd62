use Rattle.std.proofs.Common.{◌∙◌, ap, sym, subst}
use Rattle.std.specs.Prelude.{◌-ℤ◌, FitsSigned}
use Rattle.std.specs.Int.{w128}
use Rattle.lc_linear.specs.LinForm.{numbers}
use Rattle.lc_linear.proofs.Entries.{listed-insert_entry, AllFit-insert, replaced_subtracts}
use Rattle.lc_linear.proofs.Numbers.{wide_number_kept, kept_fits, difference_bits}
use Rattle.lc_linear.proofs.form.LinForm.subtract_atom.Goals as goal

pub invariant_of-self : goal.invariant_of-self
invariant_of-self c =
    let fits : FitsSigned w128 c.in_ok-coefficient.coefficient = subst (FitsSigned w128) (sym c.in_ok-coefficient.ensures.1) c.in_ok-coefficient.ensures.0 in
    record { fits = AllFit-insert c.insert.result _ _ _ _ c.insert.ensures.entries c.insert.ensures.err (kept_fits _ fits) c.args.self.now.fits }

pub returns-clause-ok : goal.returns-clause-ok
returns-clause-ok c = λ p.
    let d = c.in_ok-coefficient.ensures in
    let before = subst (FitsSigned w128) (sym c.coefficient.ensures) (c.args.self.now.fits c.args.atom) in
    let is = d.1 ∙ difference_bits c.coefficient.result c.args.count before c.ranges.count ∙ ap (λ n. n -ℤ c.args.count) c.coefficient.ensures in
    listed-insert_entry c.args.self.now.constant _ _ _ _ c.in_ok-insert.ensures.entries p ∙
    replaced_subtracts (numbers c.args.self.now) c.args.atom _ c.args.count (wide_number_kept _ (subst (FitsSigned w128) (sym d.1) d.0) ∙ is) p
