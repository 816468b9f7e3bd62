use Rattle.std.proofs.Common.{◌≡◌, ◌∙◌, ap, sym, subst, to_z, of_z, true, false, arith}
use Rattle.std.specs.Prelude.{pos, ◌+ℤ◌, ◌<ℤ◌, ◌≤ℤ◌, int_rem}
use Rattle.std.specs.Int.{w128}
use Rattle.std.proofs.lemmas.Int.{ints}
use lib.Signed.{lt_z}
use Rattle.lc_linear.specs.Divided.{IsRoundedUp}
use Rattle.lc_linear.proofs.Division.{rounded_quotient, rounded_next, quotient_bits, remainder_bits, next_fits}
use Rattle.lc_linear.proofs.Numbers.{wide_number_kept}
use Rattle.lc_linear.proofs.number.rounded_up.Goals as goal

pub returns-then-number-divisor-gt0 : goal.returns-then-number-divisor-gt0
returns-then-number-divisor-gt0 c =
    let a = c.args.number in
    let k = c.args.divisor in
    let r = remainder_bits a k c.ranges.number c.ranges.divisor c.requires in
    let test : lt_z (pos 0) (int_rem a k) ≡ true = ap (lt_z (pos 0)) (sym r) ∙ c.if-number-divisor-gt0.true in
    let high : pos 0 <ℤ int_rem a k = grind (arith, ints) in
    let next = ap (λ n. to_z w128 (of_z w128 (n +ℤ pos 1))) (quotient_bits a k c.ranges.number c.ranges.divisor c.requires) ∙ wide_number_kept _ (next_fits a k c.ranges.number c.ranges.divisor c.requires high) in
    subst (IsRoundedUp a k) (sym next) (rounded_next a k c.requires high)

pub returns-else-number-divisor-gt0 : goal.returns-else-number-divisor-gt0
returns-else-number-divisor-gt0 c =
    let a = c.args.number in
    let k = c.args.divisor in
    let r = remainder_bits a k c.ranges.number c.ranges.divisor c.requires in
    let test : lt_z (pos 0) (int_rem a k) ≡ false = ap (lt_z (pos 0)) (sym r) ∙ c.if-number-divisor-gt0.false in
    let low : int_rem a k ≤ℤ pos 0 = grind (arith, ints) in
    subst (IsRoundedUp a k) (sym (quotient_bits a k c.ranges.number c.ranges.divisor c.requires)) (rounded_quotient a k c.requires low)
