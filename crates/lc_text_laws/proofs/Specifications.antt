-- A specification is printed as it stood.
use Rattle.std.proofs.Common.{◌≡◌, ℕ, ℤ, pos, negsuc, suc, ◌+◌, Bool, true, false, cond, List, [], ◌∷◌, ◌++◌, append-nil, Option, Some, None, map, refl, sym, ap, ◌∙◌, subst, arith}
use Rattle.std.proofs.lemmas.Bool.{ltb-false, lt-ltb}
use Rattle.std.specs.Prelude.{codes, nat_lt, option_map, slice_index_or, ◌||◌, length}
use Rattle.std.specs.List.{list_any}
use Rattle.lc_reading.specs.Reserved.{is_system_column}
use Rattle.std.specs.Fmt.{decimal}
use Rattle.lc_base.specs.NameText.{is_name}
use Rattle.lc_base.specs.declared.ids.ColId.{ColId}
use Rattle.lc_base.specs.Limits.{argument_limit, column_limit, operation_limit, reply_limit}
use Rattle.lc_sexp.specs.Numerals.{integer_of}
use Rattle.lc_sexp.specs.Trees.{Tree, Trees, atom, list, none, ◌▸◌, item_count, row}
use Rattle.lc_reading.proofs.Fine.{IfFine, if_fine_weaker, cond_fine, mapped_fine, both_fine}
use Rattle.lc_reading.proofs.Words.{is-true}
use Rattle.lc_reading.specs.Listed.{place_of, declared_by}
use Rattle.lc_reading.specs.Naming.{is_full, name_reading}
use Rattle.lc_reading.specs.Readings.{fine, wrong, mapped, listed_reading, behind_reading}
use Rattle.lc_reading.specs.Rows.{each_reading, counted_reading, declared_reading, all_declared, first_name, second_name}
use Rattle.lc_reading.specs.Words.{is, is_long}
use Rattle.lc_reading.specs.declared.pass.Pass.TheVariants.{Shape, Bound, Unknown}
use Rattle.lc_term.specs.Syntax.{Term, Formula}
use Rattle.lc_term.specs.Updates.{Update}
use Rattle.lc_text.specs.DeclaredColumn.{declared_column_reading}
use Rattle.lc_text.specs.Names.{Names, column_at}
use Rattle.lc_text.specs.Spelling.{Spelled}
use Rattle.lc_text.specs.SpelledTree.{term_tree, formula_tree}
use Rattle.lc_text.specs.Terms.{pair, triple, term_reading}
use Rattle.lc_text.specs.declared.scope.ColumnUse.TheVariants.{Usable}
use Rattle.lc_text.specs.declared.scope.Extra.TheVariants.{Quantifiers}
use Rattle.lc_seq.specs.Specification.{Column, Branch, Operation}
use Rattle.lc_spec_text.specs.Scopes.{Columns, client, branch_names}
use Rattle.lc_spec_text.specs.Branches.{stored, written_reading, update_parts_reading, update_reading, updates_reading, replies_reading, branch_parts_reading, branch_reading, the_update, the_branch}
use Rattle.lc_spec_text.specs.Choices.{parameters_reading, parameters_in, label_reading, choice_parts_reading, the_choice, choice_reading, begin_with_choice, ways_reading}
use Rattle.lc_spec_text.specs.Operations.{natural, few, count_reading, count_in, arguments_reading, variables_in, signature_reading, operation_parts_reading, operation_reading, the_operation}
use Rattle.lc_spec_text.specs.Specifications.{column_reading, columns_reading, columns_in, operations_reading, specification_parts_reading, specification_reading, the_column, the_specification}
use Rattle.lc_outline_print.specs.Naming.{with_client, named_by}
use Rattle.lc_outline_print.specs.Parts.{column_tree, name_trees, term_trees, update_parts, update_tree, update_trees}
use Rattle.lc_outline_print.specs.Specifications.{declared_tree, branch_parts, branch_tree, operation_tree, specification_tree}
use Rattle.lc_text_laws.specs.Spellings.{IsSpelledSo}
use Rattle.lc_text_laws.proofs.Columns.{column_stood}
use Rattle.lc_text_laws.proofs.Numerals.{integer_as_stood}
use Rattle.lc_text_laws.proofs.Rows.{both_trees, IsRow, each_row, counted_row, declared_row, in_list, behind_word, limited_fine, when_fine, three_at, name_stood, declared_names, at_place}
use Rattle.lc_text_laws.proofs.Terms.{term_stood, formula_stood}

-- ---- names

-- the columns' names come before others
abbrev pub StandFirst : List (List ℕ) → List (List ℕ) → Type 0
StandFirst columns names = (rest : List (List ℕ)) × (names ≡ columns ++ rest)

first_stood : (columns names : List (List ℕ)) → StandFirst columns names → (w : List ℕ) (k : ℕ) → place_of columns w ≡ Some k → slice_index_or names k [] ≡ w
first_stood columns names (rest, is) w k e = ap (λ l. slice_index_or l k []) is ∙ at_place columns rest w k e

used_stood : (columns names : List (List ℕ)) → StandFirst columns names → (w : List ℕ) (o : Option ℕ) (c : ColId) → place_of columns w ≡ o → column_at o ≡ Usable c → slice_index_or names c.0 [] ≡ w
used_stood columns names first w None c at e = absurd (cc)
used_stood columns names first w (Some k) c at e = let same : k ≡ c.0 = cc in subst (λ k. slice_index_or names k [] ≡ w) same (first_stood columns names first w k at)

behind_client : (variables : List (List ℕ)) (w : List ℕ) (k : ℕ) (o : Option ℕ) → place_of variables w ≡ o → option_map suc o ≡ Some k → slice_index_or (codes "N" ∷ variables) k [] ≡ w
behind_client variables w k None at e = absurd (cc)
behind_client variables w k (Some j) at e =
    let same : suc j ≡ k = cc in
    subst (λ k. slice_index_or (codes "N" ∷ variables) k [] ≡ w) same (ap (λ l. slice_index_or l j []) (sym (append-nil variables)) ∙ at_place variables [] w j at)

pub branch_spelled : (columns names arguments : List (List ℕ)) → StandFirst columns names → IsSpelledSo (branch_names columns (client ++ arguments)) (named_by names (with_client arguments))
branch_spelled columns names arguments first = record {
  variables = λ w k e. behind_client (client ++ arguments) w k (place_of (client ++ arguments) w) refl e;
  columns = λ w c e. used_stood columns names first w (place_of columns w) c refl e;
  unnumbered = refl;
  unbuilt = refl;
}

-- ---- branches

module _ (columns : Columns) (names : Names) (by : Spelled) (spelled : IsSpelledSo names by) (own : (w : List ℕ) (k : ℕ) → place_of columns.own w ≡ Some k → by.column k ≡ w)
    (plain : names.allows Quantifiers ≡ false) where
  stored_stood : (n : ℕ) (w : List ℕ) (o : Option ℕ) → place_of columns.own w ≡ o → IfFine (stored columns n w o) (λ k. atom (by.column k) ≡ atom w)
  stored_stood n w None at = cond_fine (λ k. atom (by.column k) ≡ atom w) (is_system_column w || list_any (is w) columns.others) (wrong Shape n) (wrong Unknown n) tt tt
  stored_stood n w (Some k) at = cond_fine (λ k. atom (by.column k) ≡ atom w) (is_long w) (wrong Bound n) (fine k) tt (ap atom (own w k at))

  written_stood : (n : ℕ) (t : Tree) → IfFine (written_reading columns n t) (λ k. atom (by.column k) ≡ t)
  written_stood n (list ts) = tt
  written_stood n (atom w) = cond_fine (λ k. atom (by.column k) ≡ atom w) (is_name w) (stored columns n w (place_of columns.own w)) (wrong Shape n) (stored_stood n w (place_of columns.own w) refl) tt

  abbrev parts_of : (ℕ × Term) × Term → Trees
  parts_of p = update_parts by (the_update p)

  update_parts_stood : (n m : ℕ) (ts : Trees) → IfFine (update_parts_reading columns names n m ts) (λ p. parts_of p ≡ ts)
  update_parts_stood n m none = tt
  update_parts_stood n m (t ▸ none) = tt
  update_parts_stood n m (t ▸ u ▸ none) = tt
  update_parts_stood n m (t ▸ u ▸ v ▸ ts) =
      three_at (λ k. atom (by.column k) ≡ t) (λ x. term_tree by 0 x ≡ u) (λ x. term_tree by 0 x ≡ v) (λ ts p. parts_of p ≡ t ▸ u ▸ v ▸ ts) triple m t u v ts _ _ _
      (written_stood m t) (term_stood names by spelled (m + item_count t) u) (term_stood names by spelled (m + item_count t + item_count u) v)
      (λ x y z a b c. both_trees _ _ _ _ a (both_trees _ _ _ _ b (both_trees _ _ _ _ c refl)))

  update_stood : (n : ℕ) (t : Tree) → IfFine (update_reading columns names n t) (λ u. update_tree by u ≡ t)
  update_stood n t =
      mapped_fine (λ p. list (parts_of p) ≡ t) (λ u. update_tree by u ≡ t) the_update (listed_reading (update_parts_reading columns names) n t)
      (in_list parts_of (update_parts_reading columns names) update_parts_stood n t) (λ p e. e)

  updates_stood : (n : ℕ) (t : Tree) → IfFine (updates_reading columns names n t) (λ us. list (update_trees by us) ≡ t)
  updates_stood n t = in_list (update_trees by) (λ n. each_reading (update_reading columns names)) (λ n m ts. each_row (update_tree by) (update_reading columns names) update_stood m ts) n t

  replies_stood : (count : Option ℕ) (n : ℕ) (t : Tree) → IfFine (replies_reading names count n t) (λ xs. list (term_trees by xs) ≡ t)
  replies_stood None n t = tt
  replies_stood (Some count) n t =
      in_list (term_trees by) (λ n. counted_reading (term_reading names []) n count)
      (λ n m ts. counted_row (term_tree by 0) (term_reading names []) (term_stood names by spelled) n count m ts) n t

  branch_parts_stood : (count : Option ℕ) (n m : ℕ) (ts : Trees) → IfFine (branch_parts_reading columns names count n m ts) (λ p. branch_parts by (the_branch p) ≡ ts)
  branch_parts_stood count n m none = tt
  branch_parts_stood count n m (t ▸ none) = tt
  branch_parts_stood count n m (t ▸ u ▸ none) = tt
  branch_parts_stood count n m (t ▸ u ▸ v ▸ ts) =
      three_at (λ f. formula_tree by 0 f ≡ t) (λ us. list (update_trees by us) ≡ u) (λ xs. list (term_trees by xs) ≡ v) (λ ts p. branch_parts by (the_branch p) ≡ t ▸ u ▸ v ▸ ts) triple m t u v ts _ _ _
      (formula_stood names by spelled plain m t) (updates_stood (m + item_count t) u) (replies_stood count (m + item_count t + item_count u) v)
      (λ x y z a b c. both_trees _ _ _ _ a (both_trees _ _ _ _ b (both_trees _ _ _ _ c refl)))

-- ---- operations

few_stood : (n : ℕ) (w : List ℕ) (o : Option ℤ) → integer_of w ≡ o → IfFine (few n (natural o)) (λ k. atom (decimal k) ≡ atom w)
few_stood n w None e = tt
few_stood n w (Some (negsuc k)) e = tt
few_stood n w (Some (pos k)) e = at (nat_lt reply_limit k) refl
  where
    at : (b : Bool) → nat_lt reply_limit k ≡ b → IfFine (cond b (wrong Bound n) (fine k)) (λ k. atom (decimal k) ≡ atom w)
    at true is = tt
    at false is = ap atom (integer_as_stood w (pos k) e (lt-ltb k 9223372036854775808 (let few = ltb-false 3 k is in omega (arith, few))))

count_stood : (n : ℕ) (t : Tree) → IfFine (count_reading n t) (λ k. atom (decimal k) ≡ t)
count_stood n (atom w) = few_stood n w (integer_of w) refl
count_stood n (list ts) = tt

arguments_stood : (n : ℕ) (t : Tree) → IfFine (arguments_reading n t) (λ ws. list (name_trees ws) ≡ t)
arguments_stood n t =
    in_list name_trees (λ n. declared_reading (name_reading (Some (1 + argument_limit))) declared_by client)
    (λ n m ts. declared_row atom (name_reading (Some (1 + argument_limit))) declared_by (name_stood (Some (1 + argument_limit))) client m ts) n t

-- the arguments that an item declares
abbrev arguments_in : Tree → List (List ℕ)
arguments_in (list ts) = all_declared declared_by ts
arguments_in (atom w) = []

variables_are : (t : Tree) → variables_in t ≡ client ++ arguments_in t
variables_are (list ts) = refl
variables_are (atom w) = refl

parameters_stood : (variables : List (List ℕ)) (n : ℕ) (t : Tree) → IfFine (parameters_reading variables n t) (λ ws. list (name_trees ws) ≡ t)
parameters_stood variables n t =
    in_list name_trees (λ n. declared_reading (name_reading (Some (3 + length variables))) declared_by variables)
    (λ n m ts. declared_row atom (name_reading (Some (3 + length variables))) declared_by (name_stood (Some (3 + length variables))) variables m ts) n t

parameters_are : (u : Tree) (ws : List (List ℕ)) → list (name_trees ws) ≡ u → parameters_in u ≡ ws
parameters_are u ws e = ap parameters_in (sym e) ∙ declared_names ws

-- ---- branches and choices of an operation of these arguments

module _ (columns : Columns) (names : List (List ℕ)) (first : StandFirst columns.own names) (arguments : List (List ℕ)) where
  -- the names of these variables, which come after the client
  abbrev seen : List (List ℕ) → Names
  seen variables = branch_names columns.own (client ++ variables)

  abbrev spelled_with : List (List ℕ) → Spelled
  spelled_with variables = named_by names (with_client variables)

  abbrev Body : Type 0
  Body = (Formula × List Update) × List Term

  body_stood : (variables : List (List ℕ)) (count : Option ℕ) (n m : ℕ) (ts : Trees)
      → IfFine (branch_parts_reading columns (seen variables) count n m ts) (λ p. branch_parts (spelled_with variables) (the_branch p) ≡ ts)
  body_stood variables =
      branch_parts_stood columns (seen variables) (spelled_with variables) (branch_spelled columns.own names variables first) (first_stood columns.own names first) refl

  -- a branch has no variables of its own
  branch_is : (p : Body) → branch_tree names arguments (the_branch p) ≡ list (atom (codes "branch") ▸ branch_parts (spelled_with arguments) (the_branch p))
  branch_is p = ap (λ vs. list (atom (codes "branch") ▸ branch_parts (spelled_with vs) (the_branch p))) (append-nil arguments)

  branch_stood : (count : Option ℕ) (n : ℕ) (t : Tree) → IfFine (branch_reading columns (seen arguments) count n t) (λ b. branch_tree names arguments b ≡ t)
  branch_stood count n t =
      mapped_fine (λ p. list (atom (codes "branch") ▸ branch_parts (spelled_with arguments) (the_branch p)) ≡ t) (λ b. branch_tree names arguments b ≡ t) the_branch
      (behind_reading (codes "branch") (branch_parts_reading columns (seen arguments) count) n t)
      (behind_word (λ p. branch_parts (spelled_with arguments) (the_branch p)) (codes "branch") (branch_parts_reading columns (seen arguments) count) (body_stood arguments count) n t)
      (λ p e. branch_is p ∙ e)

  abbrev Label : Type 0
  Label = List ℕ × List (List ℕ)

  abbrev IsLabel : Tree → Tree → Label → Type 0
  IsLabel a b p = (atom p.0 ≡ a) × (list (name_trees p.1) ≡ b)

  label_stood : (before : List (List ℕ)) (m : ℕ) (a b : Tree) → IfFine (label_reading (client ++ arguments) before m a b) (IsLabel a b)
  label_stood before m a b =
      both_fine (λ w. atom w ≡ a) (λ ws. list (name_trees ws) ≡ b) (IsLabel a b) pair (name_reading None before m a) (parameters_reading (client ++ arguments) (m + item_count a) b)
      (name_stood None before m a) (parameters_stood (client ++ arguments) (m + item_count a) b) (λ w ws x y. (x, y))

  -- NAME (PARAM*) F (UPDATE*) (T*), where the parameters are variables
  abbrev choice_parts : Label × Body → Trees
  choice_parts p = atom p.0.0 ▸ list (name_trees p.0.1) ▸ branch_parts (spelled_with (arguments ++ p.0.1)) (the_branch p.1)

  choice_joined : (a b : Tree) (ts : Trees) (p : Label) (q : Body) → IsLabel a b p → branch_parts (spelled_with (arguments ++ parameters_in b)) (the_branch q) ≡ ts → choice_parts (p, q) ≡ a ▸ b ▸ ts
  choice_joined a b ts p q x e =
      both_trees _ _ _ _ x.0 (both_trees _ _ _ _ x.1 (ap (λ ws. branch_parts (spelled_with (arguments ++ ws)) (the_branch q)) (sym (parameters_are b p.1 x.1)) ∙ e))

  choice_parts_stood : (count : Option ℕ) (before : List (List ℕ)) (n m : ℕ) (ts : Trees) → IfFine (choice_parts_reading columns (client ++ arguments) count before n m ts) (λ p. choice_parts p ≡ ts)
  choice_parts_stood count before n m none = tt
  choice_parts_stood count before n m (a ▸ none) = tt
  choice_parts_stood count before n m (a ▸ b ▸ none) = tt
  choice_parts_stood count before n m (a ▸ b ▸ t ▸ none) = tt
  choice_parts_stood count before n m (a ▸ b ▸ t ▸ u ▸ none) = tt
  choice_parts_stood count before n m (a ▸ b ▸ t ▸ u ▸ v ▸ ts) =
      both_fine (IsLabel a b) (λ q. branch_parts (spelled_with (arguments ++ parameters_in b)) (the_branch q) ≡ t ▸ u ▸ v ▸ ts) (λ p. choice_parts p ≡ a ▸ b ▸ t ▸ u ▸ v ▸ ts) pair
      (label_reading (client ++ arguments) before m a b)
      (branch_parts_reading columns (seen (arguments ++ parameters_in b)) count n (m + item_count a + item_count b) (t ▸ u ▸ v ▸ ts))
      (label_stood before m a b) (body_stood (arguments ++ parameters_in b) count n (m + item_count a + item_count b) (t ▸ u ▸ v ▸ ts))
      (λ p q x e. choice_joined a b (t ▸ u ▸ v ▸ ts) p q x e)

  choice_stood : (count : Option ℕ) (before : List (List ℕ)) (n : ℕ) (t : Tree) → IfFine (choice_reading columns (client ++ arguments) count before n t) (λ b. branch_tree names arguments b ≡ t)
  choice_stood count before n t =
      mapped_fine (λ p. list (atom (codes "choice") ▸ choice_parts p) ≡ t) (λ b. branch_tree names arguments b ≡ t) the_choice
      (behind_reading (codes "choice") (choice_parts_reading columns (client ++ arguments) count before) n t)
      (behind_word choice_parts (codes "choice") (choice_parts_reading columns (client ++ arguments) count before) (choice_parts_stood count before) n t) (λ p e. e)

  ways_stood : (count : Option ℕ) (m : ℕ) (ts : Trees) → IfFine (ways_reading columns (client ++ arguments) count m ts) (IsRow (branch_tree names arguments) ts)
  ways_stood count m ts =
      cond_fine (IsRow (branch_tree names arguments) ts) (begin_with_choice ts) _ _
      (declared_row (branch_tree names arguments) (choice_reading columns (client ++ arguments) count) second_name (choice_stood count) [] m ts)
      (each_row (branch_tree names arguments) (branch_reading columns (seen arguments) count) (branch_stood count) m ts)

module _ (columns : Columns) (names : List (List ℕ)) (first : StandFirst columns.own names) where
  branches_stood : (u : Tree) (count : Option ℕ) (m : ℕ) (ts : Trees)
      → IfFine (ways_reading columns (variables_in u) count m ts) (IsRow (branch_tree names (arguments_in u)) ts)
  branches_stood u count m ts =
      subst (λ vs. IfFine (ways_reading columns vs count m ts) (IsRow (branch_tree names (arguments_in u)) ts)) (sym (variables_are u)) (ways_stood columns names first (arguments_in u) count m ts)

  abbrev Signed : Type 0
  Signed = (List ℕ × List (List ℕ)) × ℕ

  abbrev operation_parts : Signed × List Branch → Trees
  operation_parts p =
      atom p.0.0.0 ▸ list (name_trees p.0.0.1) ▸ atom (decimal p.0.1) ▸ row (map (branch_tree names p.0.0.1) p.1)

  signature_stood : (before : List (List ℕ)) (m : ℕ) (t u v : Tree) → IfFine (signature_reading before m t u v) (λ p. (atom p.0.0 ≡ t) × (list (name_trees p.0.1) ≡ u) × (atom (decimal p.1) ≡ v))
  signature_stood before m t u v =
      three_at (λ w. atom w ≡ t) (λ ws. list (name_trees ws) ≡ u) (λ k. atom (decimal k) ≡ v) (λ ts p. (atom p.0.0 ≡ t) × (list (name_trees p.0.1) ≡ u) × (atom (decimal p.1) ≡ v)) triple m t u v none _ _ _
      (name_stood None before m t) (arguments_stood (m + item_count t) u) (count_stood (m + item_count t + item_count u) v) (λ x y z a b c. (a, b, c))

  arguments_are : (u : Tree) (ws : List (List ℕ)) → list (name_trees ws) ≡ u → arguments_in u ≡ ws
  arguments_are u ws e = ap arguments_in (sym e) ∙ declared_names ws

  operation_joined : (t u v : Tree) (ts : Trees) (p : Signed) (bs : List Branch) → (atom p.0.0 ≡ t) × (list (name_trees p.0.1) ≡ u) × (atom (decimal p.1) ≡ v)
      → IsRow (branch_tree names (arguments_in u)) ts bs → operation_parts (p, bs) ≡ t ▸ u ▸ v ▸ ts
  operation_joined t u v ts p bs (a, b, c) e =
      both_trees _ _ _ _ a (both_trees _ _ _ _ b (both_trees _ _ _ _ c
      (ap (λ ws. row (map (branch_tree names ws) bs)) (sym (arguments_are u p.0.1 b)) ∙ e)))

  operation_parts_stood : (before : List (List ℕ)) (n m : ℕ) (ts : Trees) → IfFine (operation_parts_reading columns before n m ts) (λ p. operation_parts p ≡ ts)
  operation_parts_stood before n m none = tt
  operation_parts_stood before n m (t ▸ none) = tt
  operation_parts_stood before n m (t ▸ u ▸ none) = tt
  operation_parts_stood before n m (t ▸ u ▸ v ▸ none) = tt
  operation_parts_stood before n m (t ▸ u ▸ v ▸ b ▸ bs) =
      both_fine (λ p. (atom p.0.0 ≡ t) × (list (name_trees p.0.1) ≡ u) × (atom (decimal p.1) ≡ v)) (IsRow (branch_tree names (arguments_in u)) (b ▸ bs))
      (λ p. operation_parts p ≡ t ▸ u ▸ v ▸ b ▸ bs) pair (signature_reading before m t u v) _ (signature_stood before m t u v)
      (branches_stood u (count_in v) (m + item_count t + item_count u + item_count v) (b ▸ bs)) (λ p bs' a e. operation_joined t u v (b ▸ bs) p bs' a e)

  pub operation_stood : (before : List (List ℕ)) (n : ℕ) (t : Tree) → IfFine (operation_reading columns before n t) (λ o. operation_tree names o ≡ t)
  operation_stood before n t =
      limited_fine (λ o. operation_tree names o ≡ t) (is_full (Some operation_limit) (length before)) n (mapped the_operation (behind_reading (codes "op") (operation_parts_reading columns before) n t))
      (mapped_fine (λ p. list (atom (codes "op") ▸ operation_parts p) ≡ t) (λ o. operation_tree names o ≡ t) the_operation (behind_reading (codes "op") (operation_parts_reading columns before) n t)
      (behind_word operation_parts (codes "op") (operation_parts_reading columns before) (operation_parts_stood before) n t) (λ p e. e))

-- ---- the specification

spec_column_stood : (before : List (List ℕ)) (n : ℕ) (t : Tree) → IfFine (column_reading before n t) (λ c. declared_tree c ≡ t)
spec_column_stood before n t =
    mapped_fine (λ p. column_tree p.0.0 p.0.1 p.1 ≡ t) (λ c. declared_tree c ≡ t) the_column (declared_column_reading (Some column_limit) before n t) (column_stood (Some column_limit) before n t) (λ p e. e)

columns_stood : (n : ℕ) (t : Tree) → IfFine (columns_reading n t) (λ cs. list (atom (codes "abstract") ▸ row (map declared_tree cs)) ≡ t)
columns_stood n t =
    behind_word (λ cs. row (map declared_tree cs)) (codes "abstract") (λ n. declared_reading column_reading first_name [])
    (λ n m ts. declared_row declared_tree column_reading first_name spec_column_stood [] m ts) n t

abbrev pub names_of : List Column → List (List ℕ)
names_of cs = map (λ (c : Column). c.name) cs

columns_declared : (cs : List Column) → all_declared first_name (row (map declared_tree cs)) ≡ names_of cs
columns_declared [] = refl
columns_declared (c ∷ cs) = ap (λ ws. c.name ∷ ws) (columns_declared cs)

columns_are : (u : Tree) (cs : List Column) → list (atom (codes "abstract") ▸ row (map declared_tree cs)) ≡ u → columns_in u ≡ names_of cs
columns_are u cs e = ap columns_in (sym e) ∙ columns_declared cs

module _ (others names : List (List ℕ)) where
  abbrev Parts : Type 0
  Parts = (List ℕ × List Column) × List Operation

  abbrev spec_parts : Parts → Trees
  spec_parts p = atom p.0.0 ▸ list (atom (codes "abstract") ▸ row (map declared_tree p.0.1)) ▸ row (map (operation_tree names) p.1)

  operations_stood : (u : Tree) (m : ℕ) (ts : Trees) → IfFine (operations_reading (record { own = columns_in u; others = others }) m ts) (λ os. StandFirst (columns_in u) names → IsRow (operation_tree names) ts os)
  operations_stood u m ts =
      when_fine (StandFirst (columns_in u) names) (IsRow (operation_tree names) ts) _
      (λ first. declared_row (operation_tree names) (operation_reading (record { own = columns_in u; others = others })) second_name
      (operation_stood (record { own = columns_in u; others = others }) names first) [] m ts)

  parts_stood : (n m : ℕ) (ts : Trees) → IfFine (specification_parts_reading others n m ts) (λ p. StandFirst (names_of p.0.1) names → spec_parts p ≡ ts)
  parts_stood n m none = tt
  parts_stood n m (t ▸ none) = tt
  parts_stood n m (t ▸ u ▸ none) = tt
  parts_stood n m (t ▸ u ▸ o ▸ os) =
      both_fine (λ p. (atom p.0 ≡ t) × (list (atom (codes "abstract") ▸ row (map declared_tree p.1)) ≡ u)) (λ xs. StandFirst (columns_in u) names → IsRow (operation_tree names) (o ▸ os) xs)
      (λ p. StandFirst (names_of p.0.1) names → spec_parts p ≡ t ▸ u ▸ o ▸ os) (λ (p : List ℕ × List Column) z. triple p.0 p.1 z) _ _
      (both_fine (λ w. atom w ≡ t) (λ cs. list (atom (codes "abstract") ▸ row (map declared_tree cs)) ≡ u) (λ p. (atom p.0 ≡ t) × (list (atom (codes "abstract") ▸ row (map declared_tree p.1)) ≡ u)) (λ x y. (x, y)) _ _
      (name_stood None [] m t) (columns_stood (m + item_count t) u) (λ x y a b. (a, b)))
      (operations_stood u (m + item_count t + item_count u) (o ▸ os))
      (λ p xs a h first. both_trees _ _ _ _ a.0 (both_trees _ _ _ _ a.1 (h (subst (λ cs. StandFirst cs names) (sym (columns_are u p.1 a.1)) first))))

  behind_spec : (w : List ℕ) (b : Bool) (n m : ℕ) (ts : Trees) → is w (codes "spec") ≡ b → IfFine (cond b (specification_parts_reading others n m ts) (wrong Shape n))
      (λ p. StandFirst (names_of p.0.1) names → list (atom (codes "spec") ▸ spec_parts p) ≡ list (atom w ▸ ts))
  behind_spec w false n m ts is = tt
  behind_spec w true n m ts is =
      if_fine_weaker (λ p. StandFirst (names_of p.0.1) names → spec_parts p ≡ ts) (λ p. StandFirst (names_of p.0.1) names → list (atom (codes "spec") ▸ spec_parts p) ≡ list (atom w ▸ ts))
      (specification_parts_reading others n m ts) (λ p h first. ap list (both_trees _ _ _ _ (ap atom (sym (is-true w (codes "spec") is))) (h first))) (parts_stood n m ts)

  form_stood : (n : ℕ) (t : Tree) → IfFine (behind_reading (codes "spec") (specification_parts_reading others) n t) (λ p. StandFirst (names_of p.0.1) names → list (atom (codes "spec") ▸ spec_parts p) ≡ t)
  form_stood n (atom w) = tt
  form_stood n (list none) = tt
  form_stood n (list (list us ▸ ts)) = tt
  form_stood n (list (atom w ▸ ts)) = behind_spec w (is w (codes "spec")) n (n + 2) ts refl

  -- if its columns' names are the first
  pub specification_stood : (n : ℕ) (t : Tree) → IfFine (specification_reading others n t) (λ s. StandFirst (names_of s.columns) names → specification_tree names s ≡ t)
  specification_stood n t =
      mapped_fine (λ p. StandFirst (names_of p.0.1) names → list (atom (codes "spec") ▸ spec_parts p) ≡ t) (λ s. StandFirst (names_of s.columns) names → specification_tree names s ≡ t) the_specification
      (behind_reading (codes "spec") (specification_parts_reading others) n t) (form_stood n t) (λ p h. h)
