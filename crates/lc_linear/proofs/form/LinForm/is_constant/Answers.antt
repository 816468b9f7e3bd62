use Rattle.std.proofs.Common.{◌∙◌, sym, ap, subst, map, of_z}
use Rattle.std.specs.Prelude.{FitsSigned}
use Rattle.std.specs.Int.{w128}
use Rattle.std.specs.Map.Iter.{deref_pair}
use Rattle.std.proofs.lemmas.Bool.{false≢true}
use Rattle.lc_linear.proofs.Distinct.{Turn, turn, entry_found, one_more_entry, Vanishes, one_more_zero}
use Rattle.lc_linear.proofs.Numbers.{zero_bits}
use Rattle.lc_linear.proofs.form.LinForm.is_constant.Goals as goal
use Rattle.lc_linear.proofs.form.LinForm.is_constant.Goals.{In-Some}

-- this turn of the loop
this : (c : In-Some) → Turn c.args.self.now.coefficients.entries (map deref_pair c.loop-coefficient.yielded) (deref_pair (c.in-Some.field-0-0, c.in-Some.coefficient))
this c =
    turn c.args.self.now.coefficients.entries c.into_iter-coefficient-iterator.result c.loop-coefficient.coefficient-iterator c.next.new.self c.loop-coefficient.yielded c.next.result
    (c.into_iter-coefficient-iterator.ensures.into_iter_gives ∙ c.iter-coefficient-items.ensures.rest) c.loop-coefficient.yielded_by c.next.ensures.steps
    (c.in-Some.field-0-0, c.in-Some.coefficient) c.in-Some.is c.iter-coefficient-items.ensures.unique

pub returns-then-coefficient-ne0 : goal.returns-then-coefficient-ne0
returns-then-coefficient-ne0 c =
    let found = entry_found _ _ _ (this (goal.at.returns-then-coefficient-ne0 c).In-Some) in
    (λ h. absurd (false≢true h), λ zero. absurd (c.if-coefficient-ne0.true (ap (of_z w128) (sym found ∙ zero c.in-Some.field-0-0.now))))

pub loop-coefficient-preserved : goal.loop-coefficient-preserved
loop-coefficient-preserved c =
    let here = this (goal.at.loop-coefficient-preserved c).In-Some in
    let fits = subst (FitsSigned w128) (entry_found _ _ _ here) (c.args.self.now.fits c.in-Some.field-0-0.now) in
    subst Vanishes (sym (one_more_entry c.loop-coefficient.yielded (c.in-Some.field-0-0, c.in-Some.coefficient)))
    (one_more_zero _ _ _ here.fresh (zero_bits c.in-Some.coefficient.now fits c.if-coefficient-ne0.false) c.loop-coefficient.invariant)
