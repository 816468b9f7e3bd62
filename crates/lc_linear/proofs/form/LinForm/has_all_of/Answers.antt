use Rattle.std.proofs.Common.{◌∙◌, sym, ap, subst, map, of_z}
use Rattle.std.specs.Prelude.{FitsSigned}
use Rattle.std.specs.Int.{w128}
use Rattle.std.specs.Map.Iter.{deref_pair}
use Rattle.lc_linear.specs.Numbered.{AllHave}
use Rattle.lc_linear.specs.LinForm.{numbers}
use Rattle.lc_linear.proofs.Distinct.{Turn, turn, turned, entry_found, one_more_entry}
use Rattle.lc_linear.proofs.Numbers.{same_bits}
use Rattle.lc_linear.proofs.Sameness.{AllHave-snoc}
use Rattle.lc_linear.proofs.form.LinForm.has_all_of.Goals as goal
use Rattle.lc_linear.proofs.form.LinForm.has_all_of.Goals.{In-Some}

-- this turn of the loop
this : (c : In-Some) → Turn c.args.other.now.coefficients.entries (map deref_pair c.loop-atom.yielded) (deref_pair (c.in-Some.atom, c.in-Some.coefficient))
this c =
    turn c.args.other.now.coefficients.entries c.into_iter-atom-iterator.result c.loop-atom.atom-iterator c.next.new.self c.loop-atom.yielded c.next.result
    (c.into_iter-atom-iterator.ensures.into_iter_gives ∙ c.iter-atom-items.ensures.rest) c.loop-atom.yielded_by c.next.ensures.steps
    (c.in-Some.atom, c.in-Some.coefficient) c.in-Some.is c.iter-atom-items.ensures.unique

pub loop-atom-init : goal.loop-atom-init
loop-atom-init c = tt

pub returns-then-coefficient-clause-different : goal.returns-then-coefficient-clause-different
returns-then-coefficient-clause-different c = λ h. (
  c.in-Some.atom.now,
  λ same. c.if-coefficient.true (ap (of_z w128) (c.coefficient.ensures ∙ same ∙ entry_found _ _ _ (this (goal.at.returns-then-coefficient-clause-different c).In-Some))),
)

pub loop-atom-preserved : goal.loop-atom-preserved
loop-atom-preserved c =
    let here = this (goal.at.loop-atom-preserved c).In-Some in
    let x = c.in-Some.atom.now in
    let mine = subst (FitsSigned w128) (sym c.coefficient.ensures) (c.args.self.now.fits x) in
    let others = subst (FitsSigned w128) (entry_found _ _ _ here) (c.args.other.now.fits x) in
    subst (AllHave (numbers c.args.self.now)) (sym (one_more_entry c.loop-atom.yielded (c.in-Some.atom, c.in-Some.coefficient)))
    (AllHave-snoc (numbers c.args.self.now) _ x c.in-Some.coefficient.now c.loop-atom.invariant (sym c.coefficient.ensures ∙ same_bits _ _ mine others c.if-coefficient.false))

pub returns-clause-all : goal.returns-clause-all
returns-clause-all c = λ h.
    let all = turned c.args.other.now.coefficients.entries c.into_iter-atom-iterator.result c.loop-atom.atom-iterator c.next.new.self c.loop-atom.yielded c.next.result
    (c.into_iter-atom-iterator.ensures.into_iter_gives ∙ c.iter-atom-items.ensures.rest) c.loop-atom.yielded_by c.next.ensures.steps c.in-None.is in
    subst (λ l. AllHave (numbers c.args.self.now) l) all c.loop-atom.invariant
