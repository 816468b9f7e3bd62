use Rattle.std.proofs.Common.{◌≡◌, ◌∙◌, ap, sym, subst, to_z, of_z, arith}
use Rattle.std.specs.Prelude.{pos, ◌+ℤ◌, FitsSigned, unwrap_or}
use Rattle.std.specs.Int.{w128}
use Rattle.std.proofs.lemmas.Int.{ints}
use Rattle.lc_linear.specs.Numbered.{coefficient_in}
use Rattle.lc_linear.proofs.Entries.{AllFit-insert_entry, coefficient_in-found, found_sum, set_inserted_value, added_new, added_old}
use Rattle.lc_linear.proofs.Numbers.{wide_number_kept, kept_fits}
use Rattle.lc_linear.proofs.form.LinForm.add_atom.Goals as goal

pub invariant_of-self-in_default : goal.invariant_of-self-in_default
invariant_of-self-in_default c =
    record { fits = AllFit-insert_entry _ _ _ _ c.in_ok-index.ensures.entries (kept_fits _ c.ranges.count) c.args.self.now.fits }

pub invariant_of-self-in_default-checked_add : goal.invariant_of-self-in_default-checked_add
invariant_of-self-in_default-checked_add c =
    record { fits = AllFit-insert_entry _ _ _ _ c.in_ok-index.ensures.entries (kept_fits _ c.ranges.count) c.args.self.now.fits }

pub returns-in_default-clause-ok : goal.returns-in_default-clause-ok
returns-in_default-clause-ok c =
    let e = c.in_ok-index.ensures in
    added_new c.args.self.now.constant c.args.count _ _ _ _ _ e.entries (wide_number_kept _ c.ranges.count) e.old c.in_default.is

pub returns-in_default-checked_add-clause-large : goal.returns-in_default-checked_add-clause-large
returns-in_default-checked_add-clause-large c = λ _ fits.
    let is = found_sum c.args.self.now.coefficients.entries c.args.atom _ _ _ c.in_ok-index.ensures.old c.in-Some.is c.ranges.count c.args.self.now.fits in
    c.in_default-checked_add.ensures (subst (FitsSigned w128) (sym is) fits)

pub invariant_of-self-2 : goal.invariant_of-self-2
invariant_of-self-2 c =
    let es = c.args.self.now.coefficients.entries in
    let e = c.in_ok-index.ensures in
    let f : FitsSigned w128 c.in-Some-checked_add.sum = subst (FitsSigned w128) (sym c.in-Some-checked_add.ensures.1) c.in-Some-checked_add.ensures.0 in
    let put = set_inserted_value es c.insert_full.new.self.entries c.args.atom c.in_ok-index.index (to_z w128 (of_z w128 c.args.count)) _ e.entries e.index in
    record { fits = AllFit-insert_entry es _ c.args.atom _ put (kept_fits c.in-Some-checked_add.sum f) c.args.self.now.fits }

pub returns-clause-ok : goal.returns-clause-ok
returns-clause-ok c =
    let es = c.args.self.now.coefficients.entries in
    let e = c.in_ok-index.ensures in
    let f : FitsSigned w128 c.in-Some-checked_add.sum = subst (FitsSigned w128) (sym c.in-Some-checked_add.ensures.1) c.in-Some-checked_add.ensures.0 in
    let put = set_inserted_value es c.insert_full.new.self.entries c.args.atom c.in_ok-index.index (to_z w128 (of_z w128 c.args.count)) (to_z w128 (of_z w128 c.in-Some-checked_add.sum)) e.entries e.index in
    added_old c.args.self.now.constant c.args.count _ es _ c.args.atom put
    (wide_number_kept _ f ∙ c.in-Some-checked_add.ensures.1 ∙ found_sum es c.args.atom _ _ _ e.old c.in-Some.is c.ranges.count c.args.self.now.fits)

pub returns-in_default-clause-fits : goal.returns-in_default-clause-fits
returns-in_default-clause-fits c =
    let none = coefficient_in-found c.args.self.now.coefficients.entries c.args.atom c.in_ok-index.before c.in_ok-index.ensures.old ∙ ap (λ o. unwrap_or o (pos 0)) c.in_default.is in
    let e : c.args.count ≡ coefficient_in c.args.self.now.coefficients.entries c.args.atom +ℤ c.args.count = omega (arith, ints) in
    subst (FitsSigned w128) e c.ranges.count

pub returns-clause-fits : goal.returns-clause-fits
returns-clause-fits c =
    subst (FitsSigned w128) (found_sum c.args.self.now.coefficients.entries c.args.atom _ _ _ c.in_ok-index.ensures.old c.in-Some.is c.ranges.count c.args.self.now.fits) c.in-Some-checked_add.ensures.0
