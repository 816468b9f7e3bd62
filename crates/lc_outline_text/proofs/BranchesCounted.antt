-- The branches of a specification store in the columns that its text names.
use Rattle.std.proofs.Common.{◌≡◌, ℕ, zero, suc, ◌+◌, Bool, true, false, cond, List, [], ◌∷◌, ◌++◌, length, Option, Some, None, refl, sym, ap, ap₂, ◌∙◌, subst}
use Rattle.std.specs.List.{list_any}
use Rattle.std.specs.Prelude.{ℤ, codes, slice_get, ◌||◌}
use Rattle.lc_base.specs.NameText.{is_name}
use Rattle.lc_base.specs.Limits.{column_limit, operation_limit}
use Rattle.lc_sexp.specs.Parts.{fits, misshapen, form_fit}
use Rattle.lc_sexp.specs.TreeCode.{tree_count}
use Rattle.lc_sexp.specs.Trees.{Tree, Trees, atom, list, none, ◌▸◌, item_count}
use Rattle.lc_reading.proofs.Holding.{Holds, holds_unit, mapped_holds, both_holds, three_holds, ended_holds, limited_holds, if_holds, holds_weaker}
use Rattle.lc_reading.specs.Listed.{place_of}
use Rattle.lc_reading.specs.Naming.{is_full, name_reading}
use Rattle.lc_reading.specs.Readings.{fine, wrong, listed_reading}
use Rattle.lc_reading.specs.Reserved.{is_system_column}
use Rattle.lc_reading.specs.Rows.{each_reading, first_name, second_name, all_declared, declared_reading}
use Rattle.lc_reading.specs.Words.{is, is_long}
use Rattle.lc_reading.specs.declared.pass.Pass.TheVariants.{Shape, Bound, Unknown}
use Rattle.lc_term.specs.Syntax.{Term, Formula}
use Rattle.lc_term.specs.Updates.{Update}
use Rattle.lc_text.specs.DeclaredColumn.{column_parts_reading, declared_column_reading}
use Rattle.lc_text.specs.Formulas.{formula_reading}
use Rattle.lc_text.specs.Names.{Names}
use Rattle.lc_text.specs.Terms.{pair, triple, number_reading, term_reading}
use Rattle.lc_seq.specs.Specification.{Branch, Operation}
use Rattle.lc_spec_text.specs.Branches.{stored, written_reading, the_update, update_parts_reading, update_reading, updates_reading, replies_reading, the_branch, branch_parts_reading, branch_reading}
use Rattle.lc_spec_text.specs.Choices.{parameters_in, label_reading, choice_parts_reading, the_choice, choice_reading, begin_with_choice, ways_reading}
use Rattle.lc_spec_text.specs.Operations.{count_in, variables_in, signature_reading, the_operation, operation_parts_reading, operation_reading}
use Rattle.lc_spec_text.specs.Scopes.{Columns, branch_names}
use Rattle.lc_spec_text.specs.Specifications.{the_column, column_reading, columns_reading, columns_in, operations_reading, the_specification, specification_parts_reading, specification_reading}
use Rattle.lc_object_text.proofs.Holding.{form_holds}
use Rattle.lc_object_text.specs.ObjectNames.{text_in, first_text, items_within, later, parts_in_first, names_of_columns}
use Rattle.lc_object_text.specs.Sections.{parts_of_fit, parts_in, forms_in, some_forms_in}
use Rattle.lc_outline.specs.Sizes.{columns_of}
use Rattle.lc_outline_text.proofs.Going.{no_choices}
use Rattle.lc_outline_text.specs.Declarations.{branches_in}
use Rattle.lc_outline_text.specs.Sizes.{columns_stored}
use Rattle.lc_outline_text.proofs.RowsCounted.{Alike, Along, each_along, declared_along, counted_count, IsForm, forms_alike, some_alike, for_all}
use Rattle.lc_outline_text.proofs.UpdatesCounted.{IsColumn, Leads, IsBranchOf}

-- ---- branches

-- a choice NAME (PARAM ..) F (UPDATE ..) (T ..)
abbrev pub IsChoiceOf : List (List ℕ) → Trees → Branch → Type 0
IsChoiceOf all ts b = IsBranchOf all (later (later ts)) b

module _ (columns : Columns) (all : List (List ℕ)) (first : Leads columns.own all) where
  stored_said : (n : ℕ) (t : Tree) → Holds (IsColumn all (text_in t)) (written_reading columns n t)
  stored_said n (list ts) = tt
  stored_said n (atom w) = if_holds (IsColumn all w) (is_name w) (stored columns n w (place_of columns.own w)) (wrong Shape n) (at_place (place_of columns.own w) refl) tt where
    at_place : (o : Option ℕ) → place_of columns.own w ≡ o → Holds (IsColumn all w) (stored columns n w o)
    at_place None e = if_holds (IsColumn all w) (is_system_column w || list_any (is w) columns.others) (wrong Shape n) (wrong Unknown n) tt tt
    at_place (Some k) e = if_holds (IsColumn all w) (is_long w) (wrong Bound n) (fine k) tt (first w k e)

  parts_said : (names : Names) (n m : ℕ) (ts : Trees) → Holds (λ (p : (ℕ × Term) × Term). IsColumn all (first_text ts) p.0.0) (update_parts_reading columns names n m ts)
  parts_said names n m none = tt
  parts_said names n m (t ▸ none) = tt
  parts_said names n m (t ▸ u ▸ none) = tt
  parts_said names n m (t ▸ u ▸ v ▸ ts) =
      let P : (ℕ × Term) × Term → Type 0 = λ p. IsColumn all (text_in t) p.0.0 in
      ended_holds P (m + item_count t + item_count u + item_count v) ts _
      (three_holds (IsColumn all (text_in t)) (λ x. Unit {0}) (λ x. Unit {0}) P triple (written_reading columns m t) (term_reading names [] (m + item_count t) u) (term_reading names [] (m + item_count t + item_count u) v)
      (stored_said m t) (holds_unit (term_reading names [] (m + item_count t) u)) (holds_unit (term_reading names [] (m + item_count t + item_count u) v)) (λ k x y h u v. h))

  update_said : (names : Names) (n : ℕ) (t : Tree) → Holds (λ u. IsColumn all (first_text (items_within t)) u.column) (update_reading columns names n t)
  update_said names n (atom w) = tt
  update_said names n (list ts) =
      mapped_holds (λ (p : (ℕ × Term) × Term). IsColumn all (first_text ts) p.0.0) (λ u. IsColumn all (first_text ts) u.column) the_update (update_parts_reading columns names n (n + 1) ts) (parts_said names n (n + 1) ts) (λ p h. h)

  row_said : (names : Names) (m : ℕ) (ts : Trees) → Holds (λ us. columns_stored all ts ≡ columns_of us) (each_reading (update_reading columns names) m ts)
  row_said names m none = refl
  row_said names m (t ▸ ts) =
      both_holds (λ u. IsColumn all (first_text (items_within t)) u.column) (λ us. columns_stored all ts ≡ columns_of us) (λ us. columns_stored all (t ▸ ts) ≡ columns_of us) (λ x xs. x ∷ xs)
      (update_reading columns names m t) (each_reading (update_reading columns names) (m + item_count t) ts) (update_said names m t) (row_said names (m + item_count t) ts) (λ u us h g. ap₂ (λ a b. a ++ b) h g)

  updates_said : (names : Names) (n : ℕ) (t : Tree) → Holds (λ us. columns_stored all (items_within t) ≡ columns_of us) (updates_reading columns names n t)
  updates_said names n (atom w) = tt
  updates_said names n (list ts) = row_said names (n + 1) ts

  replies_said : (names : Names) (count : Option ℕ) (n : ℕ) (t : Tree) → Holds (λ rs. length rs ≡ tree_count (items_within t)) (replies_reading names count n t)
  replies_said names None n t = tt
  replies_said names (Some count) n (atom w) = tt
  replies_said names (Some count) n (list ts) = counted_count (term_reading names []) n count (n + 1) ts

  branch_parts_said : (names : Names) (count : Option ℕ) (n m : ℕ) (ts : Trees) → Holds (λ p. IsBranchOf all ts (the_branch p)) (branch_parts_reading columns names count n m ts)
  branch_parts_said names count n m none = tt
  branch_parts_said names count n m (t ▸ none) = tt
  branch_parts_said names count n m (t ▸ u ▸ none) = tt
  branch_parts_said names count n m (t ▸ u ▸ v ▸ ts) =
      let P : (Formula × List Update) × List Term → Type 0 = λ p. IsBranchOf all (t ▸ u ▸ v ▸ ts) (the_branch p) in
      ended_holds P (m + item_count t + item_count u + item_count v) ts _
      (three_holds (λ f. Unit {0}) (λ us. columns_stored all (items_within u) ≡ columns_of us) (λ rs. length rs ≡ tree_count (items_within v)) P triple
      (formula_reading names [] m t) (updates_reading columns names (m + item_count t) u) (replies_reading names count (m + item_count t + item_count u) v)
      (holds_unit (formula_reading names [] m t)) (updates_said names (m + item_count t) u) (replies_said names count (m + item_count t + item_count u) v) (λ f us rs a h g. (h, g)))

  branch_said : (names : Names) (count : Option ℕ) (n : ℕ) (t : Tree) → Holds (IsBranchOf all (parts_in (codes "branch") t)) (branch_reading columns names count n t)
  branch_said names count n t =
      mapped_holds _ (IsBranchOf all (parts_in (codes "branch") t)) the_branch _
      (form_holds (λ ts p. IsBranchOf all ts (the_branch p)) (codes "branch") (branch_parts_reading columns names count) n t (branch_parts_said names count)) (λ p h. h.1)

  -- ---- choices

  module _ (variables : List (List ℕ)) (count : Option ℕ) where
    choice_parts_said : (before : List (List ℕ)) (n m : ℕ) (ts : Trees) → Holds (λ p. IsBranchOf all (later (later ts)) (the_choice p)) (choice_parts_reading columns variables count before n m ts)
    choice_parts_said before n m none = tt
    choice_parts_said before n m (a ▸ none) = tt
    choice_parts_said before n m (a ▸ b ▸ none) = tt
    choice_parts_said before n m (a ▸ b ▸ t ▸ none) = tt
    choice_parts_said before n m (a ▸ b ▸ t ▸ u ▸ none) = tt
    choice_parts_said before n m (a ▸ b ▸ t ▸ u ▸ v ▸ ts) =
        let parts = t ▸ u ▸ v ▸ ts in
        let names = branch_names columns.own (variables ++ parameters_in b) in
        let k = m + item_count a + item_count b in
        both_holds (λ x. Unit {0}) (λ q. IsBranchOf all parts (the_branch q)) (λ p. IsBranchOf all parts (the_choice p)) pair (label_reading variables before m a b) (branch_parts_reading columns names count n k parts)
        (holds_unit (label_reading variables before m a b)) (branch_parts_said names count n k parts) (λ p q u h. h)

    choice_said : (before : List (List ℕ)) (n : ℕ) (t : Tree) → Holds (IsForm (codes "choice") (IsChoiceOf all) t) (choice_reading columns variables count before n t)
    choice_said before n t =
        mapped_holds _ (IsForm (codes "choice") (IsChoiceOf all) t) the_choice _
        (form_holds (λ ts p. IsChoiceOf all ts (the_choice p)) (codes "choice") (choice_parts_reading columns variables count before) n t (choice_parts_said before)) (λ p h. h)

-- ---- operations

-- if the first form is no choice, each branch is that of its text; and each choice is that of its text, wherever it is
abbrev pub AreBranchesOf : List (List ℕ) → Trees → List Branch → Type 0
AreBranchesOf all ts bs = Along (λ t b. IsBranchOf all (parts_in (codes "branch") t) b) ts bs

pub record AreWaysSaid (all : List (List ℕ)) (ts : Trees) (bs : List Branch) : Type 0 where
  pub branches : begin_with_choice ts ≡ false → AreBranchesOf all ts bs
  pub choices : (j : ℕ) (f : Trees) (b : Branch) → slice_get (forms_in (codes "choice") ts) j ≡ Some f → slice_get bs j ≡ Some b → IsChoiceOf all f b

-- an operation NAME (ARG ..) REPLIES, then BRANCH .. or CHOICE ..
abbrev pub IsOperationOf : List (List ℕ) → Trees → Operation → Type 0
IsOperationOf all us q = AreWaysSaid all (branches_in us) q.branches

-- of lists that go together
both_there : {X Y : Type 0} (P : X → Y → Type 0) (xs : List X) (ys : List Y) (j : ℕ) (x : X) (y : Y) → Alike P xs ys → slice_get xs j ≡ Some x → slice_get ys j ≡ Some y → P x y
both_there P [] ys j x y h e g = absurd (cc)
both_there P (v ∷ xs) [] j x y h e g = absurd (cc)
both_there P (v ∷ xs) (w ∷ ys) zero x y h e g = let left : v ≡ x = cc in let right : w ≡ y = cc in subst (λ z. P z y) left (subst (P v) right h.0)
both_there P (v ∷ xs) (w ∷ ys) (suc j) x y h e g = both_there P xs ys j x y h.1 e g

module _ (columns : Columns) (all : List (List ℕ)) (first : Leads columns.own all) where
  ways_said : (variables : List (List ℕ)) (count : Option ℕ) (m : ℕ) (ts : Trees) → Holds (AreWaysSaid all ts) (ways_reading columns variables count m ts)
  ways_said variables count m ts = by_test (begin_with_choice ts) refl where
    by_test : (c : Bool) → begin_with_choice ts ≡ c
        → Holds (AreWaysSaid all ts) (cond c (declared_reading (choice_reading columns variables count) second_name [] m ts) (each_reading (branch_reading columns (branch_names columns.own variables) count) m ts))
    by_test true e =
        holds_weaker (Along (IsForm (codes "choice") (IsChoiceOf all)) ts) (AreWaysSaid all ts) (declared_reading (choice_reading columns variables count) second_name [] m ts)
        (λ bs h. record {
          branches = λ no. absurd (let other : true ≡ false = sym e ∙ no in cc);
          choices = λ j f b at there. both_there (IsChoiceOf all) (forms_in (codes "choice") ts) bs j f b (forms_alike (codes "choice") (IsChoiceOf all) ts bs h) at there;
        })
        (declared_along (IsForm (codes "choice") (IsChoiceOf all)) (choice_reading columns variables count) second_name (choice_said columns all first variables count) [] m ts)
    by_test false e =
        let read = branch_reading columns (branch_names columns.own variables) count in
        holds_weaker (AreBranchesOf all ts) (AreWaysSaid all ts) (each_reading read m ts)
        (λ bs h. record {
          branches = λ none. h;
          choices = λ j f b at there. absurd (let other : None ≡ Some f = sym (ap (λ fs. slice_get fs j) (no_choices ts e)) ∙ at in cc);
        })
        (each_along (λ t b. IsBranchOf all (parts_in (codes "branch") t) b) read (branch_said columns all first (branch_names columns.own variables) count) m ts)

  operation_parts_said : (before : List (List ℕ)) (n m : ℕ) (us : Trees) → Holds (λ p. IsOperationOf all us (the_operation p)) (operation_parts_reading columns before n m us)
  operation_parts_said before n m none = tt
  operation_parts_said before n m (t ▸ none) = tt
  operation_parts_said before n m (t ▸ u ▸ none) = tt
  operation_parts_said before n m (t ▸ u ▸ v ▸ none) = tt
  operation_parts_said before n m (t ▸ u ▸ v ▸ b ▸ bs) =
      let r = ways_reading columns (variables_in u) (count_in v) (m + item_count t + item_count u + item_count v) (b ▸ bs) in
      both_holds (λ x. Unit {0}) (AreWaysSaid all (b ▸ bs)) (λ p. IsOperationOf all (t ▸ u ▸ v ▸ b ▸ bs) (the_operation p)) pair (signature_reading before m t u v) r
      (holds_unit (signature_reading before m t u v)) (ways_said (variables_in u) (count_in v) (m + item_count t + item_count u + item_count v) (b ▸ bs)) (λ p xs h g. g)

  operation_said : (before : List (List ℕ)) (n : ℕ) (t : Tree) → Holds (IsForm (codes "op") (IsOperationOf all) t) (operation_reading columns before n t)
  operation_said before n t =
      limited_holds (IsForm (codes "op") (IsOperationOf all) t) (is_full (Some operation_limit) (length before)) n _
      (mapped_holds _ (IsForm (codes "op") (IsOperationOf all) t) the_operation _
      (form_holds (λ us p. IsOperationOf all us (the_operation p)) (codes "op") (operation_parts_reading columns before) n t (operation_parts_said before)) (λ p h. h))

-- ---- the names of columns

column_named_first : (before : List (List ℕ)) (n : ℕ) (t : Tree) → Holds (λ p. first_name t ≡ first_text (items_within t) ∷ []) (listed_reading (column_parts_reading before) n t)
column_named_first before n (atom w) = tt
column_named_first before n (list none) = tt
column_named_first before n (list (list us ▸ none)) = tt
column_named_first before n (list (list us ▸ u ▸ none)) = tt
column_named_first before n (list (list us ▸ u ▸ v ▸ ts)) =
    let P : (List ℕ × ℤ) × ℤ → Type 0 = λ p. [] ≡ [] ∷ [] in
    let m = n + 1 + item_count (list us) in
    ended_holds P (m + item_count u + item_count v) ts _
    (three_holds (λ w. ⊥) (λ x. Unit {0}) (λ x. Unit {0}) P triple (name_reading None before (n + 1) (list us)) (number_reading m u) (number_reading (m + item_count u) v)
    tt (holds_unit (number_reading m u)) (holds_unit (number_reading (m + item_count u) v)) (λ w x y h a b. absurd h))
column_named_first before n (list (atom w ▸ ts)) =
    let r = column_parts_reading before n (n + 1) (atom w ▸ ts) in holds_weaker (λ p. Unit {0}) (λ p. first_name (list (atom w ▸ ts)) ≡ w ∷ []) r (λ p u. refl) (holds_unit r)

column_named_so : (before : List (List ℕ)) (n : ℕ) (t : Tree) → Holds (λ c. first_name t ≡ first_text (items_within t) ∷ []) (column_reading before n t)
column_named_so before n t =
    mapped_holds (λ p. first_name t ≡ first_text (items_within t) ∷ []) (λ c. first_name t ≡ first_text (items_within t) ∷ []) the_column (declared_column_reading (Some column_limit) before n t)
    (limited_holds (λ p. first_name t ≡ first_text (items_within t) ∷ []) (is_full (Some column_limit) (length before)) n _ (column_named_first before n t)) (λ p h. h)

row_named : (before : List (List ℕ)) (m : ℕ) (ts : Trees) → Holds (λ cs. all_declared first_name ts ≡ names_of_columns ts) (declared_reading column_reading first_name before m ts)
row_named before m none = refl
row_named before m (t ▸ ts) =
    both_holds (λ c. first_name t ≡ first_text (items_within t) ∷ []) (λ cs. all_declared first_name ts ≡ names_of_columns ts) (λ cs. all_declared first_name (t ▸ ts) ≡ names_of_columns (t ▸ ts)) (λ x xs. x ∷ xs)
    (column_reading before m t) _ (column_named_so before m t) (row_named (before ++ first_name t) (m + item_count t) ts) (λ c cs h g. ap₂ (λ a b. a ++ b) h g)

columns_named : (n : ℕ) (t : Tree) → Holds (λ cs. columns_in t ≡ names_of_columns (parts_in (codes "abstract") t)) (columns_reading n t)
columns_named n (atom w) = tt
columns_named n (list none) = tt
columns_named n (list (list us ▸ ts)) = tt
columns_named n (list (atom w ▸ ts)) = by_test (is w (codes "abstract")) where
  by_test : (b : Bool) → Holds (λ cs. cond b (all_declared first_name ts) [] ≡ names_of_columns (parts_of_fit (cond b (fits ts) misshapen))) (cond b (declared_reading column_reading first_name [] (n + 2) ts) (wrong Shape n))
  by_test true = row_named [] (n + 2) ts
  by_test false = tt

-- ---- the specification

-- NAME (abstract COL ..) OP ..
abbrev pub own_names : Trees → List (List ℕ)
own_names us = names_of_columns (parts_in_first (codes "abstract") (later us))

abbrev pub AreOperationsOf : Trees → List Operation → Type 0
AreOperationsOf us qs = (all : List (List ℕ)) → Leads (own_names us) all → Alike (IsOperationOf all) (some_forms_in (codes "op") (later (later us))) qs

specification_parts_said : (others : List (List ℕ)) (n m : ℕ) (us : Trees) → Holds (λ p. AreOperationsOf us (the_specification p).operations) (specification_parts_reading others n m us)
specification_parts_said others n m none = tt
specification_parts_said others n m (t ▸ none) = tt
specification_parts_said others n m (t ▸ u ▸ none) = tt
specification_parts_said others n m (t ▸ u ▸ o ▸ os) =
    let columns : Columns = record { own = columns_in u; others = others } in
    let k = m + item_count t in
    let Q : List (List ℕ) → List Operation → Type 0 = λ all qs. Leads columns.own all → Alike (IsOperationOf all) (some_forms_in (codes "op") (o ▸ os)) qs in
    let r = operations_reading columns (k + item_count u) (o ▸ os) in
    three_holds (λ w. Unit {0}) (λ cs. columns_in u ≡ names_of_columns (parts_in (codes "abstract") u)) (λ qs. (all : List (List ℕ)) → Q all qs) (λ p. AreOperationsOf (t ▸ u ▸ o ▸ os) (the_specification p).operations) triple
    (name_reading None [] m t) (columns_reading k u) r
    (holds_unit (name_reading None [] m t)) (columns_named k u)
    (for_all Q r (λ all. for_all (λ (first : Leads columns.own all) qs. Alike (IsOperationOf all) (some_forms_in (codes "op") (o ▸ os)) qs) r
    (λ first. holds_weaker (Along (IsForm (codes "op") (IsOperationOf all)) (o ▸ os)) (Alike (IsOperationOf all) (some_forms_in (codes "op") (o ▸ os))) r (some_alike (codes "op") (IsOperationOf all) (o ▸ os))
    (declared_along (IsForm (codes "op") (IsOperationOf all)) (operation_reading columns) second_name (operation_said columns all first) [] (k + item_count u) (o ▸ os)))))
    (λ w cs qs a h g all first. g all (subst (λ own. Leads own all) (sym h) first))

pub specification_said : (others : List (List ℕ)) (n : ℕ) (t : Tree) → Holds (λ q. (form_fit (codes "spec") t ≡ fits (parts_in (codes "spec") t)) × AreOperationsOf (parts_in (codes "spec") t) q.operations) (specification_reading others n t)
specification_said others n t =
    mapped_holds _ (λ q. (form_fit (codes "spec") t ≡ fits (parts_in (codes "spec") t)) × AreOperationsOf (parts_in (codes "spec") t) q.operations) the_specification _
    (form_holds (λ us p. AreOperationsOf us (the_specification p).operations) (codes "spec") (specification_parts_reading others) n t (specification_parts_said others)) (λ p h. h)
