use Rattle.std.proofs.Common.{rules, ◌≡◌, Some, None, refl, subst}
use Rattle.std.specs.Prelude.{nat_eq}
use Rattle.std.specs.Map.{lookup}
use Rattle.lc_table.specs.Tables.{term_in}
use Rattle.lc_linear.specs.Form.{form_of}
use Rattle.lc_linear.specs.LinForm.{numbers}
use Rattle.lc_linear.specs.PartForms.{IsMade}
use Rattle.lc_linear.proofs.InTables.{Reads-same}
use Rattle.lc_linear.proofs.exact.taken.Goals as goal

pub returns-in_ok-copy_of-in-Some-Some-clause-made : goal.returns-in_ok-copy_of-in-Some-Some-clause-made
returns-in_ok-copy_of-in-Some-Some-clause-made c =
    let ts = c.args.terms.now in
    let form = c.in-Some-Some.form in
    let copy = c.in_ok-copy_of-in-Some-Some.field-0 in
    let g = form_of (term_in ts c.args.part) in
    let found : lookup (nat_eq c.args.part.0) c.args.forms.now.entries ≡ Some c.in-Some-Some.field-0.now = search rules in
    let is : c.in-Some-Some.field-0.now ≡ Some form = search rules in
    let made : IsMade ts c.args.part (Some form) = subst (IsMade ts c.args.part) is (c.requires c.args.part c.in-Some-Some.field-0.now found) in
    (made.0, Reads-same ts (numbers form) (numbers copy) g g c.in_ok-copy_of-in-Some-Some.ensures (λ p. refl) made.1)

pub returns-in-Some-None-clause-made : goal.returns-in-Some-None-clause-made
returns-in-Some-None-clause-made c =
    let ts = c.args.terms.now in
    let found : lookup (nat_eq c.args.part.0) c.args.forms.now.entries ≡ Some c.in-Some-None.field-0.now = search rules in
    let is : c.in-Some-None.field-0.now ≡ None = search rules in
    subst (IsMade ts c.args.part) is (c.requires c.args.part c.in-Some-None.field-0.now found)
