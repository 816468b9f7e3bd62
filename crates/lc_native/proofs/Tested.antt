-- A specification is compared with a form by its columns and by its operations.
use Rattle.std.specs.Prelude.{◌≡◌, ◌↔◌, Bool, true, false, List, [], ◌∷◌, ℤ, map, refl}
use Rattle.std.proofs.Common.{ap, sym, ◌∙◌}
use Rattle.std.proofs.lemmas.Bool.{false≢true}
use Rattle.std.proofs.lemmas.List.{map-id}
use Rattle.lc_seq.specs.Specification.{Specification}
use Rattle.lc_seq.specs.SpecView.{column_of, columns_of, operation_of, operations_of}
use Rattle.lc_seq.specs.declared.specification.Column.{Column}
use Rattle.lc_seq.specs.declared.specification.Operation.{Operation}
use Rattle.lc_native.specs.Form.{Form, numbers_of, operation_form, form_of_specification}
use Rattle.lc_native.specs.FormView.{operation_form_of, operation_forms_of}
use Rattle.lc_native.specs.declared.form.OperationForm.{OperationForm}

twice : {A B C : Type 0} (f : B → C) (g : A → B) (xs : List A) → map (λ x. f (g x)) xs ≡ map f (map g xs)
twice f g [] = refl
twice f g (x ∷ xs) = ap (λ ys. f (g x) ∷ ys) (twice f g xs)

-- the test of columns, which are those of a specification, against those of a form
pub columns-tested : (test : Bool) (given columns : List Column) (wanted numbers : List (ℤ × ℤ)) → columns_of given ≡ columns_of columns → wanted ≡ numbers
    → (test ≡ true) ↔ (map (λ c. numbers_of (column_of c)) given ≡ map (λ (n : ℤ × ℤ). n) wanted) → (test ≡ true) ↔ (map numbers_of (columns_of columns) ≡ numbers)
columns-tested test given columns wanted numbers is are tested =
    let said = twice numbers_of column_of given ∙ ap (map numbers_of) is in
    let kept = map-id wanted ∙ are in
    (λ holds. sym said ∙ tested.0 holds ∙ kept, λ same. tested.1 (said ∙ same ∙ sym kept))

-- and that of operations
pub operations-tested : (test : Bool) (given operations : List Operation) (wanted forms : List OperationForm) → operations_of given ≡ operations_of operations → wanted ≡ forms
    → (test ≡ true) ↔ (map (λ o. operation_form (operation_of o)) given ≡ map operation_form_of wanted) → (test ≡ true) ↔ (map operation_form (operations_of operations) ≡ operation_forms_of forms)
operations-tested test given operations wanted forms is are tested =
    let said = twice operation_form operation_of given ∙ ap (map operation_form) is in
    let kept = ap operation_forms_of are in
    (λ holds. sym said ∙ tested.0 holds ∙ kept, λ same. tested.1 (said ∙ same ∙ sym kept))

-- if the columns are the same, the operations decide
pub form-tested : (s : Specification) (f : Form) (columns operations : Bool) → (columns ≡ true) ↔ (map numbers_of s.columns ≡ f.columns) → (operations ≡ true) ↔ (map operation_form s.operations ≡ f.operations)
    → columns ≡ true → (operations ≡ true) ↔ (form_of_specification s ≡ f)
form-tested s f columns operations first second is = (
  λ holds.
      let numbers = first.0 is in
      let forms = second.0 holds in λ i. record { columns = numbers i; operations = forms i },
  λ same. second.1 (ap (λ (g : Form). g.operations) same),
)

pub form-failed : (s : Specification) (f : Form) (columns : Bool) → (columns ≡ true) ↔ (map numbers_of s.columns ≡ f.columns) → columns ≡ false → (columns ≡ true) ↔ (form_of_specification s ≡ f)
form-failed s f columns first fails = (λ holds. absurd (false≢true (sym fails ∙ holds)), λ same. first.1 (ap (λ (g : Form). g.columns) same))
