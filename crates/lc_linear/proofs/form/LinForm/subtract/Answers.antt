use Rattle.std.proofs.Common.{rules, ◌≡◌, ◌∙◌, ap, ap₂, refl, sym, subst, map, Some, None, to_z, of_z}
use Rattle.std.specs.Prelude.{Err, negsuc, ◌-ℤ◌, ◌*ℤ◌, FitsSigned}
use Rattle.std.specs.Int.{w128}
use Rattle.std.specs.Map.Iter.{deref_pair}
use Rattle.lc_linear.specs.Arithmetic.{subtracted}
use Rattle.lc_linear.specs.Numbered.{Place, number_form, atom_form}
use Rattle.lc_linear.specs.LinForm.{numbers}
use Rattle.lc_linear.proofs.Adding.{Summed, one_more_summed, next_sum, next_difference_fits, minus-sum, minus-zero, all_subtracted, fits_at}
use Rattle.lc_linear.proofs.Distinct.{Turn, turn, turned, entry_found, one_more_entry}
use Rattle.lc_linear.proofs.Faults.{passed_on}
use Rattle.lc_linear.proofs.Numbers.{wide_number_kept}
use Rattle.lc_linear.proofs.form.LinForm.subtract.Goals as goal
use Rattle.lc_linear.proofs.form.LinForm.subtract.Goals.{In-Some, In-None}

-- this turn of the loop
this : (c : In-Some) → Turn c.args.other.now.coefficients.entries (map deref_pair c.loop-atom.yielded) (deref_pair (c.in-Some.atom, c.in-Some.coefficient))
this c =
    turn c.args.other.now.coefficients.entries c.into_iter-atom-iterator.result c.loop-atom.atom-iterator c.next.new.self c.loop-atom.yielded c.next.result
    (c.into_iter-atom-iterator.ensures.into_iter_gives ∙ c.iter-atom-items.ensures.rest) c.loop-atom.yielded_by c.next.ensures.steps (c.in-Some.atom, c.in-Some.coefficient) c.in-Some.is c.iter-atom-items.ensures.unique

-- its coefficient
coefficient : (c : In-Some) → to_z w128 (of_z w128 c.in-Some.coefficient.now) ≡ c.in-Some.coefficient.now
coefficient c = wide_number_kept _ (subst (FitsSigned w128) (entry_found _ _ _ (this c)) (c.args.other.now.fits c.in-Some.atom.now))

pub returns-in_err-subtract_number : goal.returns-in_err-subtract_number
returns-in_err-subtract_number c = passed_on _ _ c.from_residual.result _ c.from_residual.ensures.1 (λ met can.
    let constant : FitsSigned w128 c.args.other.now.constant = search rules in
    c.in_err-subtract_number.ensures.large (ap Err met) (subst (λ n. FitsSigned w128 (numbers c.args.self None -ℤ n)) (sym (wide_number_kept _ constant)) (can None)))

pub loop-atom-preserved : goal.loop-atom-preserved
loop-atom-preserved c =
    let at = (goal.at.loop-atom-preserved c).In-Some in
    let n = c.in-Some.coefficient.now in
    subst (Summed (numbers c.subtract_number.new.self) (numbers c.subtract_atom.new.self) (negsuc 0)) (sym (one_more_entry c.loop-atom.yielded (c.in-Some.atom, c.in-Some.coefficient)))
    (one_more_summed (negsuc 0) (negsuc 0 *ℤ n) _ _ n (this at).fresh refl _ _ c.loop-atom.invariant (numbers c.subtract_atom.new.self)
    (λ p. c.in_ok-subtract_atom.ensures.ok p ∙ ap (λ m. numbers c.loop-atom.rest p -ℤ m *ℤ atom_form c.in-Some.atom.now p) (coefficient at) ∙ minus-sum (numbers c.loop-atom.rest p) n _))

pub returns-in_err-subtract_atom : goal.returns-in_err-subtract_atom
returns-in_err-subtract_atom c = passed_on _ _ c.from_residual-in_err-subtract_atom.result _ c.from_residual-in_err-subtract_atom.ensures.1 (λ met can.
    let at = (goal.at.returns-in_err-subtract_atom c).In-Some in
    let n = c.in-Some.coefficient.now in
    let x = c.in-Some.atom.now in
    let sum = next_sum (negsuc 0) (negsuc 0 *ℤ n) (map deref_pair c.loop-atom.yielded) x n (this at).fresh refl (numbers c.subtract_number.new.self) (numbers c.loop-atom.rest) c.loop-atom.invariant in
    let start : numbers c.subtract_number.new.self (Some x) ≡ numbers c.args.self (Some x) = c.in_ok-subtract_number.ensures.ok (Some x) ∙ minus-zero (numbers c.args.self (Some x)) in
    let whole = ap₂ ◌-ℤ◌ (sum ∙ start) (coefficient at) in
    c.in_err-subtract_atom.ensures.large (ap Err met)
    (subst (FitsSigned w128) (sym whole) (next_difference_fits (numbers c.args.self) c.args.other.now.constant _ _ _ _ _ (this at).whole (this at).fresh can)))

-- all that was subtracted
whole : (c : In-None) → (p : Place) → numbers c.loop-atom.rest p ≡ subtracted (numbers c.args.self) (numbers c.args.other.now) p
whole c =
    let all = turned c.args.other.now.coefficients.entries c.into_iter-atom-iterator.result c.loop-atom.atom-iterator c.next.new.self c.loop-atom.yielded c.next.result
    (c.into_iter-atom-iterator.ensures.into_iter_gives ∙ c.iter-atom-items.ensures.rest) c.loop-atom.yielded_by c.next.ensures.steps c.in-None.is in
    let constant : FitsSigned w128 c.args.other.now.constant = search rules in
    all_subtracted (numbers c.args.self) (numbers c.subtract_number.new.self) (numbers c.loop-atom.rest) c.args.other.now.constant c.args.other.now.coefficients.entries
    (λ p. c.in_ok-subtract_number.ensures.ok p ∙ ap (λ n. numbers c.args.self p -ℤ number_form n p) (wide_number_kept _ constant))
    (subst (λ l. Summed (numbers c.subtract_number.new.self) (numbers c.loop-atom.rest) (negsuc 0) l) all c.loop-atom.invariant)

pub returns : goal.returns
returns c =
    let constant : FitsSigned w128 c.args.other.now.constant = search rules in (
      fits_at (subtracted (numbers c.args.self) (numbers c.args.other.now))
          (subst (λ n. FitsSigned w128 (numbers c.args.self None -ℤ n)) (wide_number_kept _ constant) c.in_ok-subtract_number.ensures.fits)
          (λ a. subst (FitsSigned w128) (whole c (Some a)) (c.loop-atom.rest.fits a)),
      whole c,
    )
