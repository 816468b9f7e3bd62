use Rattle.std.proofs.Common.{refl, sym, subst, rules, ◌≡◌, to_z, of_z}
use mir.Syntax.{w64}
use Rattle.lc_linear.specs.Divided.{Divides, IsDivided}
use Rattle.lc_linear.specs.LinForm.{numbers}
use Rattle.lc_kernel.proofs.arithmetic.divided.Goals as goal

pub returns-in-Some : goal.returns-in-Some
returns-in-Some c =
    let f = c.ranges.divisor in
    let e : to_z w64 (of_z w64 c.args.divisor) ≡ c.args.divisor = search rules in
    subst (λ k. IsDivided (numbers c.args.form) k (numbers c.in-Some.quotient)) e c.in-Some.ensures.value

pub returns-in-None : goal.returns-in-None
returns-in-None c =
    let f = c.ranges.divisor in
    let e : to_z w64 (of_z w64 c.args.divisor) ≡ c.args.divisor = search rules in
    (refl, λ divides. let no-more = c.in-None.ensures.found.1 (subst (λ k. Divides k (numbers c.args.form)) (sym e) divides) in cc)
