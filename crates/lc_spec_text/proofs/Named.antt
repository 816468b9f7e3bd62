-- In a specification that is read no two operations have one name.
use Rattle.std.proofs.Common.{◌≡◌, ℕ, ◌+◌, Bool, true, false, ◌&&◌, not, cond, List, [], ◌∷◌, refl}
use Rattle.std.specs.Prelude.{codes, bytes_eq, length, Some}
use Rattle.std.specs.List.{list_any}
use Rattle.lc_base.specs.Limits.{operation_limit}
use Rattle.lc_sexp.specs.Trees.{Tree, Trees, atom, list, none, ◌▸◌, item_count}
use Rattle.lc_reading.proofs.Holding.{Holds, holds_unit, holds_weaker, mapped_holds, both_holds, three_holds, limited_holds}
use Rattle.lc_reading.specs.Listed.{declared_by}
use Rattle.lc_reading.specs.Naming.{is_full}
use Rattle.lc_reading.specs.Readings.{wrong, behind_reading}
use Rattle.lc_reading.specs.Rows.{second_name, declared_reading}
use Rattle.lc_reading.specs.Words.{is}
use Rattle.lc_reading.specs.declared.pass.Pass.TheVariants.{Shape}
use Rattle.lc_text.specs.Terms.{pair, triple}
use Rattle.lc_seq.specs.Specification.{Branch, Operation, names_differ}
use Rattle.lc_spec_text.proofs.Apart.{IsNew, name_declares, AreNew, AreApart, apart, declared_new}
use Rattle.lc_spec_text.specs.Scopes.{Columns}
use Rattle.lc_spec_text.specs.Operations.{arguments_reading, count_reading, signature_reading, operation_parts_reading, the_operation, operation_reading}

-- an operation declares its name
abbrev Names : List (List ℕ) → Tree → Operation → Type 0
Names before t o = IsNew before o.name × (declared_by t ≡ o.name ∷ [])

operation_parts_name : (columns : Columns) (before : List (List ℕ)) (n m : ℕ) (t : Tree) (ts : Trees) → Holds (λ p. Names before t (the_operation p)) (operation_parts_reading columns before n m (t ▸ ts))
operation_parts_name columns before n m t none = tt
operation_parts_name columns before n m t (u ▸ none) = tt
operation_parts_name columns before n m t (u ▸ x ▸ none) = tt
operation_parts_name columns before n m t (u ▸ x ▸ b ▸ bs) =
    both_holds (λ (p : (List ℕ × List (List ℕ)) × ℕ). IsNew before p.0.0 × (declared_by t ≡ p.0.0 ∷ [])) (λ (bs : List Branch). Unit {0}) (λ p. Names before t (the_operation p)) pair
    (signature_reading before m t u x) _
    (three_holds (λ v. IsNew before v × (declared_by t ≡ v ∷ [])) (λ ws. Unit {0}) (λ k. Unit {0}) (λ (p : (List ℕ × List (List ℕ)) × ℕ). IsNew before p.0.0 × (declared_by t ≡ p.0.0 ∷ [])) triple _ _ _
    (name_declares before m t) (holds_unit (arguments_reading (m + item_count t) u)) (holds_unit (count_reading (m + item_count t + item_count u) x)) (λ w ws k h g e. h))
    (holds_unit _) (λ p bs h g. h)

operation_list_names : (columns : Columns) (before : List (List ℕ)) (n : ℕ) (w : List ℕ) (ts : Trees) (b : Bool)
    → Holds (λ p. IsNew before (the_operation p).name × (second_name (list (atom w ▸ ts)) ≡ (the_operation p).name ∷ [])) (cond b (operation_parts_reading columns before n (n + 2) ts) (wrong Shape n))
operation_list_names columns before n w none true = tt
operation_list_names columns before n w (u ▸ us) true = operation_parts_name columns before n (n + 2) u us
operation_list_names columns before n w ts false = tt

operation_item_names : (columns : Columns) (before : List (List ℕ)) (n : ℕ) (t : Tree)
    → Holds (λ p. IsNew before (the_operation p).name × (second_name t ≡ (the_operation p).name ∷ [])) (behind_reading (codes "op") (operation_parts_reading columns before) n t)
operation_item_names columns before n (atom w) = tt
operation_item_names columns before n (list none) = tt
operation_item_names columns before n (list (list us ▸ ts)) = tt
operation_item_names columns before n (list (atom w ▸ ts)) = operation_list_names columns before n w ts (is w (codes "op"))

pub operation_names : (columns : Columns) (before : List (List ℕ)) (n : ℕ) (t : Tree) → Holds (λ o. IsNew before o.name × (second_name t ≡ o.name ∷ [])) (operation_reading columns before n t)
operation_names columns before n t =
    limited_holds (λ o. IsNew before o.name × (second_name t ≡ o.name ∷ [])) (is_full (Some operation_limit) (length before)) n _
    (mapped_holds (λ p. IsNew before (the_operation p).name × (second_name t ≡ (the_operation p).name ∷ [])) (λ o. IsNew before o.name × (second_name t ≡ o.name ∷ [])) the_operation _
    (operation_item_names columns before n t) (λ p h. h))

not_false : (a b : Bool) → a ≡ false → b ≡ true → (not a && b) ≡ true
not_false true b e f = absurd (cc)
not_false false b e f = f

differ : (os : List Operation) → AreApart (λ (o : Operation). o.name) os → names_differ os ≡ true
differ [] h = refl
differ (o ∷ os) h = not_false (list_any (λ (p : Operation). bytes_eq o.name p.name) os) (names_differ os) h.0 (differ os h.1)

-- names of operations that are read differ
pub operations_differ : (columns : Columns) (m : ℕ) (ts : Trees) → Holds (λ os. names_differ os ≡ true) (declared_reading (operation_reading columns) second_name [] m ts)
operations_differ columns m ts =
    let name = λ (o : Operation). o.name in
    holds_weaker (AreNew name []) (λ os. names_differ os ≡ true) _ (λ os h. differ os (apart name [] os h)) (declared_new name (operation_reading columns) second_name (operation_names columns) [] m ts)
