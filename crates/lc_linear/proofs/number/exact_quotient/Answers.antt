use Rattle.std.proofs.Common.{◌≡◌, ◌∙◌, ap, ap₂, refl, sym, to_z, of_z}
use Rattle.std.specs.Prelude.{pos, int_div, int_rem}
use Rattle.std.specs.Int.{w128}
use Rattle.std.proofs.lemmas.Bool.{false≢true}
use Rattle.lc_linear.proofs.Division.{exact, no_remainder, remainder_bits}
use Rattle.lc_linear.proofs.Numbers.{wide_number_kept}
use Rattle.lc_linear.proofs.number.exact_quotient.Goals as goal

pub returns-then-number-divisor-eq0-clause-found : goal.returns-then-number-divisor-eq0-clause-found
returns-then-number-divisor-eq0-clause-found c =
    let none : int_rem c.args.number c.args.divisor ≡ pos 0 =
    sym (remainder_bits _ _ c.ranges.number c.ranges.divisor c.requires) ∙ ap (to_z w128) c.if-number-divisor-eq0.true in
    (λ h. (int_div c.args.number c.args.divisor, exact _ _ c.requires none), λ h. refl)

pub returns-else-number-divisor-eq0-clause-found : goal.returns-else-number-divisor-eq0-clause-found
returns-else-number-divisor-eq0-clause-found c = (
  λ h. absurd (false≢true h),
  λ h. absurd (c.if-number-divisor-eq0.false
      (ap (of_z w128) (ap₂ int_rem (wide_number_kept _ c.ranges.number) (wide_number_kept _ c.ranges.divisor) ∙ no_remainder _ _ c.requires h.0 h.1))),
)
