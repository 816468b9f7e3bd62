-- Operations whose names differ are distinct.
use Rattle.std.proofs.Common.{◌≡◌, ℕ, zero, suc, Bool, true, false, List, [], ◌∷◌, Some, not, refl, sym, ap, ◌∙◌}
use Rattle.std.specs.Prelude.{slice_get, bytes_eq}
use Rattle.std.specs.List.{list_any}
use Rattle.std.proofs.lemmas.Option.{same_Some}
use Rattle.std.proofs.lemmas.Slice.Eq.{bytes_eq-Decides}
use Rattle.std.proofs.lemmas.Map.Keys.{any_passes_from_place}
use Rattle.lc_lemmas.proofs.Booleans.{left_true, right_true}
use Rattle.lc_seq.specs.Specification.{Operation, names_differ}

-- operations with one name are at one place
abbrev pub NamesDiffer : List Operation → Type 0
NamesDiffer operations = (i j : ℕ) (o p : Operation) → slice_get operations i ≡ Some o → slice_get operations j ≡ Some p → o.name ≡ p.name → i ≡ j

not_both : (b : Bool) → b ≡ true → not b ≡ true → ⊥
not_both true e f = cc
not_both false e f = cc

-- an operation of this name does not come after
behind : (o : Operation) (others : List Operation) (j : ℕ) (p : Operation) → not (list_any (λ (q : Operation). bytes_eq o.name q.name) others) ≡ true → slice_get others j ≡ Some p → o.name ≡ p.name → ⊥
behind o others j p none at same =
    not_both (list_any (λ (q : Operation). bytes_eq o.name q.name) others) (any_passes_from_place (λ (q : Operation). bytes_eq o.name q.name) others j p at ((bytes_eq-Decides o.name p.name).1 same)) none

pub names_apart : (operations : List Operation) → names_differ operations ≡ true → NamesDiffer operations
names_apart [] e zero j o p at_o at_p same = absurd (cc)
names_apart [] e (suc i) j o p at_o at_p same = absurd (cc)
names_apart (x ∷ xs) e zero zero o p at_o at_p same = refl
names_apart (x ∷ xs) e zero (suc j) o p at_o at_p same =
    absurd (behind x xs j p (left_true _ (names_differ xs) e) at_p (ap (λ (y : Operation). y.name) (same_Some x o at_o) ∙ same))
names_apart (x ∷ xs) e (suc i) zero o p at_o at_p same =
    absurd (behind x xs i o (left_true _ (names_differ xs) e) at_o (ap (λ (y : Operation). y.name) (same_Some x p at_p) ∙ sym same))
names_apart (x ∷ xs) e (suc i) (suc j) o p at_o at_p same = ap suc (names_apart xs (right_true _ (names_differ xs) e) i j o p at_o at_p same)
