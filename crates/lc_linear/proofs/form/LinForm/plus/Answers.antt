use Rattle.std.proofs.Common.{rules, ◌∙◌, ap}
use Rattle.std.specs.Prelude.{◌+ℤ◌, FitsSigned}
use Rattle.std.specs.Int.{w128}
use Rattle.lc_linear.specs.LinForm.{numbers}
use Rattle.lc_linear.proofs.Adding.{fits_at, add_once, added_once, add-comm, +ℤ-comm}
use Rattle.lc_linear.proofs.Faults.{GivesForm-map}
use Rattle.lc_linear.proofs.Products.{mul-one}
use Rattle.lc_linear.proofs.form.LinForm.plus.Goals as goal

pub returns-then-len : goal.returns-then-len
returns-then-len c =
    let f = numbers c.args.self in
    let g = numbers c.args.other in
    let constant : FitsSigned w128 c.args.self.constant = search rules in
    GivesForm-map _ _ _ _ c.add_scaled.result (λ can. add-comm g f (added_once g f can)) (λ can. add_once g f (fits_at f constant c.args.self.fits) (add-comm f g can))
    (λ p. ap (λ n. g p +ℤ n) (mul-one (f p)) ∙ +ℤ-comm (g p) (f p)) c.add_scaled.ensures

pub returns-else-len : goal.returns-else-len
returns-else-len c =
    let f = numbers c.args.self in
    let g = numbers c.args.other in
    let constant : FitsSigned w128 c.args.other.constant = search rules in
    GivesForm-map _ _ _ _ c.add_scaled-else-len.result (added_once f g) (add_once f g (fits_at g constant c.args.other.fits)) (λ p. ap (λ n. f p +ℤ n) (mul-one (g p))) c.add_scaled-else-len.ensures
