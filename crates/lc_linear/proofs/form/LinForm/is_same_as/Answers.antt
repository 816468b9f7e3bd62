use Rattle.std.proofs.Common.{rules, ◌∙◌, sym, ap, of_z, None, Some}
use Rattle.std.specs.Prelude.{FitsSigned}
use Rattle.std.specs.Int.{w128}
use Rattle.std.proofs.lemmas.Bool.{false≢true, true_from_ne_false}
use Rattle.lc_linear.proofs.Numbers.{same_bits}
use Rattle.lc_linear.proofs.Sameness.{listed-same}
use Rattle.lc_linear.proofs.form.LinForm.is_same_as.Goals as goal
use Rattle.lc_linear.proofs.form.LinForm.is_same_as.Goals.{then-self-other, else-self-other}

pub returns-then-has_all_of : goal.returns-then-has_all_of
returns-then-has_all_of c =
    let mine : FitsSigned w128 c.args.self.now.constant = search rules in
    let others : FitsSigned w128 c.args.other.now.constant = search rules in
    elim c.if-self-other.branch [
      | then-self-other w ↦ (
        λ h. listed-same _ _ _ _ (same_bits _ _ mine others w.if-self-other.true) (w.has_all_of.ensures.all (sym w.value-is ∙ c.if-has_all_of.true)) (c.has_all_of-then-has_all_of.ensures.all h),
        λ same. true_from_ne_false _ (λ h. let other = c.has_all_of-then-has_all_of.ensures.different h in other.1 (same (Some other.0))),
      )
      | else-self-other w ↦ (let is = sym w.value-is ∙ c.if-has_all_of.true in absurd (w.if-self-other.false (search rules)))
    ]

pub returns-else-has_all_of : goal.returns-else-has_all_of
returns-else-has_all_of c = (
  λ h. absurd (false≢true (sym c.if-has_all_of.false ∙ h)),
  λ same. elim c.if-self-other.branch [
    | then-self-other w ↦ (let other = w.has_all_of.ensures.different (sym w.value-is ∙ c.if-has_all_of.false) in absurd (other.1 (sym (same (Some other.0)))))
    | else-self-other w ↦ absurd (w.if-self-other.false (ap (of_z w128) (same None)))
  ],
)
