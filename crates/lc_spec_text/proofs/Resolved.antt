-- In a specification that is read all names are declared.
use Rattle.std.proofs.Common.{◌≡◌, ℕ, suc, ◌+◌, ◌<◌, Bool, true, false, ◌&&◌, cond, List, [], ◌∷◌, ◌++◌, length, length-append, Option, Some, None, Ok, Err, refl, sym, ap, ◌∙◌, subst, arith, IfSome}
use Rattle.std.proofs.lemmas.Bool.{eq-eqb, and_from}
use Rattle.std.proofs.lemmas.List.{length-map}
use Rattle.std.proofs.lemmas.Bool.Decides.{nat_tests}
use Rattle.std.specs.Prelude.{Result, Vec, ℤ, pos, negsuc, option_map, codes, nat_lt, ◌==◌, IfOk}
use Rattle.std.specs.declared.alloc.Global.{Global}
use Rattle.std.specs.List.{list_all}
use Rattle.lc_lemmas.proofs.Booleans.{left_true}
use Rattle.lc_sexp.specs.Numerals.{integer_of}
use Rattle.lc_sexp.specs.Parts.{fits, beyond, fits_i64, integer_within}
use Rattle.lc_sexp.specs.Trees.{Tree, Trees, atom, list, none, ◌▸◌, item_count}
use Rattle.lc_term.specs.Places.{known, term_passes, column_passes, is_known, are_known}
use Rattle.lc_term.specs.Syntax.{Term, Column, Formula, Formulas}
use Rattle.lc_term.specs.Truth.{is_ground, are_ground}
use Rattle.lc_reading.proofs.Holding.{Holds, holds_of_fine, holds_unit, holds_weaker, and_holds, mapped_holds, both_holds, three_holds, ended_holds, limited_holds, if_holds, listed_holds, behind_holds, each_holds, counted_holds, declared_holds, declared_counts}
use Rattle.lc_reading.specs.Listed.{place_of, declared_by}
use Rattle.lc_reading.specs.Naming.{is_full, name_reading}
use Rattle.lc_reading.specs.Readings.{Reading, fine, flawed, wrong, listed_reading}
use Rattle.lc_reading.specs.Results.{IsReading}
use Rattle.lc_reading.specs.Rows.{first_name, second_name, all_declared, each_reading, counted_reading, declared_reading}
use Rattle.lc_reading.specs.Words.{is}
use Rattle.lc_reading.specs.declared.flaw.ReadFault.{ReadFault}
use Rattle.lc_reading.specs.declared.pass.Pass.TheVariants.{Shape, Bound}
use Rattle.lc_base.specs.declared.name.Name.{Name}
use Rattle.lc_base.specs.Limits.{argument_limit, column_limit, operation_limit, reply_limit, parameter_limit}
use Rattle.lc_text.specs.Names.{column_at}
use Rattle.lc_text.proofs.ReadHolds.{Kept, OfUsable, term_holds, formula_holds}
use Rattle.lc_text.specs.DeclaredColumn.{column_parts_reading}
use Rattle.lc_text.specs.Formulas.{formula_reading}
use Rattle.lc_text.specs.Terms.{pair, triple, number_reading, term_reading}
use Rattle.lc_seq.specs.Specification as S
use Rattle.lc_seq.proofs.Choosing.{resolved_behind}
use Rattle.lc_seq.specs.Specification.{Branch, Operation, Specification, update_is_resolved, branch_is_resolved, operation_is_resolved, names_differ, are_resolved}
use Rattle.lc_seq.specs.SpecView.{column_of}
use Rattle.lc_seq.specs.declared.specification.Column.{Column as ColumnValue}
use Rattle.lc_seq.specs.declared.specification.Operation.{Operation as OperationValue}
use Rattle.lc_spec_text.specs.Seen.{operations_of, specification_parts}
use Rattle.lc_spec_text.proofs.Named.{operations_differ}
use Rattle.lc_spec_text.proofs.Places.{placed_below}
use Rattle.lc_spec_text.specs.Scopes.{Columns, client, branch_names}
use Rattle.lc_spec_text.specs.Branches.{stored, written_reading, the_update, update_parts_reading, update_reading, updates_reading, replies_reading, the_branch, branch_parts_reading, branch_reading}
use Rattle.lc_spec_text.specs.Choices.{parameters_reading, parameters_in, label_reading, choice_parts_reading, the_choice, choice_reading, begin_with_choice, ways_reading}
use Rattle.lc_spec_text.specs.Operations.{natural, few, count_reading, count_in, fitting_natural, arguments_reading, variables_in, operation_parts_reading, the_operation, operation_reading}
use Rattle.lc_spec_text.specs.Specifications.{the_column, column_reading, columns_reading, columns_in, specification_parts_reading, the_specification, specification_reading}

-- columns and variables of a term are below these counts
abbrev pub TermKnown : ℕ → ℕ → Term → Type 0
TermKnown c v t = term_passes (known c v) t ≡ true

abbrev pub ColumnKnown : ℕ → ℕ → Column → Type 0
ColumnKnown c v d = column_passes (known c v) d ≡ true

-- the same for a formula, which has no quantifier
abbrev pub FormulaKnown : ℕ → ℕ → Formula → Type 0
FormulaKnown c v f = (is_ground f ≡ true) × (is_known c v f ≡ true)

abbrev FormulasKnown : ℕ → ℕ → Formulas → Type 0
FormulasKnown c v fs = (are_ground fs ≡ true) × (are_known c v fs ≡ true)

-- the names of a branch
column_below : (c v : ℕ) (o : Option ℕ) → IfSome o (λ k. k < c) → OfUsable (ColumnKnown c v) (column_at o)
column_below c v None h = tt
column_below c v (Some k) h = grind (arith, nat_tests)

variable_below : (v : ℕ) (o : Option ℕ) → IfSome o (λ k. suc k < v) → IfSome (option_map suc o) (λ k. nat_lt k v ≡ true)
variable_below v None h = tt
variable_below v (Some k) h = grind (arith, nat_tests)

below_next : (n : ℕ) (o : Option ℕ) → IfSome o (λ k. k < n) → IfSome o (λ k. suc k < suc n)
below_next n None h = tt
below_next n (Some k) h = omega (arith, h)

branch_kept : (columns variables : List (List ℕ))
    → Kept (branch_names columns variables) (TermKnown (length columns) (suc (length variables))) (ColumnKnown (length columns) (suc (length variables))) (FormulaKnown (length columns) (suc (length variables))) (FormulasKnown (length columns) (suc (length variables)))
branch_kept columns variables =
    let c = length columns in
    let v = suc (length variables) in
    let two = λ (t u : Term) (h : TermKnown c v t) (g : TermKnown c v u). and_from (term_passes (known c v) t) (term_passes (known c v) u) h g in
    record {
      plain = λ extra. refl;
      variables = λ w. variable_below v (place_of variables w) (below_next (length variables) (place_of variables w) (placed_below variables w));
      columns = λ w. column_below c v (place_of columns w) (placed_below columns w);
      numbers = λ z. refl;
      sums = two;
      differences = two;
      multiples = λ z t h. h;
      reads = λ d t h g. and_from (column_passes (known c v) d) (term_passes (known c v) t) h g;
      orders = λ t u h g. (refl, two t u h g);
      equations = λ t u h g. (refl, two t u h g);
      negations = λ f h. h;
      conjunctions = λ fs h. h;
      disjunctions = λ fs h. h;
      implications = λ f g h k. (and_from (is_ground f) (is_ground g) h.0 k.0, and_from (is_known c v f) (is_known c v g) h.1 k.1);
      no_parts = (refl, refl);
      more_parts = λ f fs h g. (and_from (is_ground f) (are_ground fs) h.0 g.0, and_from (is_known c v f) (are_known c v fs) h.1 g.1);
    }

known_term : (columns variables : List (List ℕ)) (n : ℕ) (t : Tree) → Holds (TermKnown (length columns) (suc (length variables))) (term_reading (branch_names columns variables) [] n t)
known_term columns variables n t = term_holds (branch_names columns variables) _ _ _ _ (branch_kept columns variables) n t

known_guard : (columns variables : List (List ℕ)) (n : ℕ) (t : Tree) → Holds (FormulaKnown (length columns) (suc (length variables))) (formula_reading (branch_names columns variables) [] n t)
known_guard columns variables n t = formula_holds (branch_names columns variables) _ _ _ _ (branch_kept columns variables) n t

-- updates
stored_holds : (columns : Columns) (n : ℕ) (w : List ℕ) (o : Option ℕ) → IfSome o (λ k. k < length columns.own) → Holds (λ k. nat_lt k (length columns.own) ≡ true) (stored columns n w o)
stored_holds columns n w None h = if_holds (λ k. nat_lt k (length columns.own) ≡ true) _ (wrong _ n) (wrong _ n) tt tt
stored_holds columns n w (Some k) h = if_holds (λ k. nat_lt k (length columns.own) ≡ true) _ (wrong _ n) (fine k) tt (grind (arith, nat_tests))

written_holds : (columns : Columns) (n : ℕ) (t : Tree) → Holds (λ k. nat_lt k (length columns.own) ≡ true) (written_reading columns n t)
written_holds columns n (atom w) = if_holds (λ k. nat_lt k (length columns.own) ≡ true) _ _ (wrong _ n) (stored_holds columns n w (place_of columns.own w) (placed_below columns.own w)) tt
written_holds columns n (list ts) = tt

update_parts_hold : (columns : Columns) (variables : List (List ℕ)) (n m : ℕ) (ts : Trees)
    → Holds (λ p. update_is_resolved (length columns.own) (suc (length variables)) (the_update p) ≡ true) (update_parts_reading columns (branch_names columns.own variables) n m ts)
update_parts_hold columns variables n m none = tt
update_parts_hold columns variables n m (t ▸ none) = tt
update_parts_hold columns variables n m (t ▸ u ▸ none) = tt
update_parts_hold columns variables n m (t ▸ u ▸ x ▸ ts) =
    let c = length columns.own in
    let v = suc (length variables) in
    ended_holds (λ p. update_is_resolved c v (the_update p) ≡ true) _ ts _
    (three_holds (λ k. nat_lt k c ≡ true) (TermKnown c v) (TermKnown c v) (λ p. update_is_resolved c v (the_update p) ≡ true) triple _ _ _
    (written_holds columns m t) (known_term columns.own variables _ u) (known_term columns.own variables _ x)
    (λ k i y h g e. and_from (nat_lt k c) (term_passes (known c v) i && term_passes (known c v) y) h (and_from (term_passes (known c v) i) (term_passes (known c v) y) g e)))

update_holds : (columns : Columns) (variables : List (List ℕ)) (n : ℕ) (t : Tree)
    → Holds (λ u. update_is_resolved (length columns.own) (suc (length variables)) u ≡ true) (update_reading columns (branch_names columns.own variables) n t)
update_holds columns variables n t =
    let names = branch_names columns.own variables in
    let test = update_is_resolved (length columns.own) (suc (length variables)) in
    mapped_holds (λ p. test (the_update p) ≡ true) (λ u. test u ≡ true) the_update (listed_reading (update_parts_reading columns names) n t)
    (listed_holds (λ p. test (the_update p) ≡ true) (update_parts_reading columns names) n t (update_parts_hold columns variables)) (λ p h. h)

updates_hold : (columns : Columns) (variables : List (List ℕ)) (n : ℕ) (t : Tree)
    → Holds (λ us. list_all (update_is_resolved (length columns.own) (suc (length variables))) us ≡ true) (updates_reading columns (branch_names columns.own variables) n t)
updates_hold columns variables n t =
    let names = branch_names columns.own variables in
    let test = update_is_resolved (length columns.own) (suc (length variables)) in
    listed_holds (λ us. list_all test us ≡ true) (λ n. each_reading (update_reading columns names)) n t (λ n m ts. each_holds test (update_reading columns names) (update_holds columns variables) m ts)

-- replies: they are as many as are expected, if a number is given
abbrev Replied : ℕ → ℕ → Option ℕ → List Term → Type 0
Replied c v count rs = (list_all (term_passes (known c v)) rs ≡ true) × ((k : ℕ) → count ≡ Some k → length rs ≡ k)

replies_hold : (columns variables : List (List ℕ)) (count : Option ℕ) (n : ℕ) (t : Tree)
    → Holds (Replied (length columns) (suc (length variables)) count) (replies_reading (branch_names columns variables) count n t)
replies_hold columns variables None n t = tt
replies_hold columns variables (Some count) n t =
    let names = branch_names columns variables in
    let test = term_passes (known (length columns) (suc (length variables))) in
    listed_holds (Replied (length columns) (suc (length variables)) (Some count)) (λ n. counted_reading (term_reading names []) n count) n t
    (λ n m ts. weaker (counted_reading (term_reading names []) n count m ts) (counted_holds test (term_reading names []) (known_term columns variables) n count m ts)) where
      weaker : (r : Reading (List Term)) → Holds (λ rs. (list_all (term_passes (known (length columns) (suc (length variables)))) rs ≡ true) × (length rs ≡ count)) r
          → Holds (Replied (length columns) (suc (length variables)) (Some count)) r
      weaker (fine rs) h = (h.0, λ k e. let same : count ≡ k = cc in h.1 ∙ same)
      weaker (flawed f) h = tt

-- branches
no_more : (n : ℕ) → n ≡ n + 0
no_more n = omega arith

abbrev Branched : ℕ → ℕ → Option ℕ → Branch → Type 0
Branched c v count b = (resolved_behind c v b ≡ true) × ((k : ℕ) → count ≡ Some k → length b.replies ≡ k)

branch_parts_hold : (columns : Columns) (variables : List (List ℕ)) (count : Option ℕ) (n m : ℕ) (ts : Trees)
    → Holds (λ p. Branched (length columns.own) (suc (length variables)) count (the_branch p)) (branch_parts_reading columns (branch_names columns.own variables) count n m ts)
branch_parts_hold columns variables count n m none = tt
branch_parts_hold columns variables count n m (t ▸ none) = tt
branch_parts_hold columns variables count n m (t ▸ u ▸ none) = tt
branch_parts_hold columns variables count n m (t ▸ u ▸ x ▸ ts) =
    let c = length columns.own in
    let v = suc (length variables) in
    let test = update_is_resolved c v in
    ended_holds (λ p. Branched c v count (the_branch p)) _ ts _
    (three_holds (FormulaKnown c v) (λ us. list_all test us ≡ true) (Replied c v count) (λ p. Branched c v count (the_branch p)) triple _ _ _
    (known_guard columns.own variables m t) (updates_hold columns variables _ u) (replies_hold columns.own variables count _ x)
    (λ f us rs g1 g2 g3. (
      subst (λ k. branch_is_resolved c k (the_branch ((f, us), rs)) ≡ true) (no_more v)
          (and_from (is_ground f && is_known c v f) (list_all test us && list_all (term_passes (known c v)) rs) (and_from (is_ground f) (is_known c v f) g1.0 g1.1) (and_from (list_all test us) (list_all (term_passes (known c v)) rs) g2 g3.0)),
      g3.1,
    )))

branch_holds : (columns : Columns) (variables : List (List ℕ)) (count : Option ℕ) (n : ℕ) (t : Tree)
    → Holds (Branched (length columns.own) (suc (length variables)) count) (branch_reading columns (branch_names columns.own variables) count n t)
branch_holds columns variables count n t =
    let P = Branched (length columns.own) (suc (length variables)) count in
    let N = branch_parts_reading columns (branch_names columns.own variables) count in
    mapped_holds (λ p. P (the_branch p)) P the_branch _ (behind_holds (λ p. P (the_branch p)) (codes "branch") N n t (branch_parts_hold columns variables count)) (λ p h. h)

abbrev AllBranched : ℕ → ℕ → Option ℕ → List Branch → Type 0
AllBranched c v count bs = (list_all (resolved_behind c v) bs ≡ true) × ((k : ℕ) → count ≡ Some k → list_all (λ (b : Branch). length b.replies == k) bs ≡ true)

more_branched : (c v : ℕ) (count : Option ℕ) (b : Branch) (bs : List Branch) → Branched c v count b → AllBranched c v count bs → AllBranched c v count (b ∷ bs)
more_branched c v count b bs h g = (
  and_from (resolved_behind c v b) (list_all (resolved_behind c v) bs) h.0 g.0,
  λ k e. and_from (length b.replies == k) (list_all (λ (b : Branch). length b.replies == k) bs) (eq-eqb (length b.replies) k (h.1 k e)) (g.1 k e),
)

branches_hold : (columns : Columns) (variables : List (List ℕ)) (count : Option ℕ) (m : ℕ) (ts : Trees)
    → Holds (AllBranched (length columns.own) (suc (length variables)) count) (each_reading (branch_reading columns (branch_names columns.own variables) count) m ts)
branches_hold columns variables count m none = (refl, λ k e. refl)
branches_hold columns variables count m (t ▸ ts) =
    let c = length columns.own in
    let v = suc (length variables) in
    both_holds (Branched c v count) (AllBranched c v count) (AllBranched c v count) (λ b bs. b ∷ bs) _ _
    (branch_holds columns variables count m t) (branches_hold columns variables count (m + item_count t) ts) (more_branched c v count)

-- choices
one_name : (limit : Option ℕ) (before : List (List ℕ)) (n : ℕ) (t : Tree) → Holds (λ w. length (declared_by t) ≡ 1) (name_reading limit before n t)
one_name limit before n (list ts) = tt
one_name limit before n (atom w) = always (name_reading limit before n (atom w)) where
  always : (r : Reading (List ℕ)) → Holds (λ v. length (declared_by (atom w)) ≡ 1) r
  always (fine v) = refl
  always (flawed f) = tt

parameters_hold : (variables : List (List ℕ)) (n : ℕ) (t : Tree) → Holds (λ ws. length ws ≡ length (parameters_in t)) (parameters_reading variables n t)
parameters_hold variables n (atom w) = tt
parameters_hold variables n (list ts) = let limit = Some (parameter_limit + length variables) in declared_counts (name_reading limit) declared_by (one_name limit) variables (n + 1) ts

label_holds : (variables before : List (List ℕ)) (m : ℕ) (a b : Tree) → Holds (λ l. length l.1 ≡ length (parameters_in b)) (label_reading variables before m a b)
label_holds variables before m a b =
    both_holds (λ w. Unit {0}) (λ ws. length ws ≡ length (parameters_in b)) (λ l. length l.1 ≡ length (parameters_in b)) pair (name_reading None before m a) (parameters_reading variables (m + item_count a) b)
    (holds_unit (name_reading None before m a)) (parameters_hold variables (m + item_count a) b) (λ w ws h g. g)

behind : (vs ps : List (List ℕ)) (n : ℕ) → n ≡ length ps → suc (length (vs ++ ps)) + 0 ≡ suc (length vs) + n
behind vs ps n e = omega (arith, e, length-append vs ps)

choice_parts_hold : (columns : Columns) (variables : List (List ℕ)) (count : Option ℕ) (before : List (List ℕ)) (n m : ℕ) (ts : Trees)
    → Holds (λ p. Branched (length columns.own) (suc (length variables)) count (the_choice p)) (choice_parts_reading columns variables count before n m ts)
choice_parts_hold columns variables count before n m none = tt
choice_parts_hold columns variables count before n m (a ▸ none) = tt
choice_parts_hold columns variables count before n m (a ▸ b ▸ none) = tt
choice_parts_hold columns variables count before n m (a ▸ b ▸ t ▸ none) = tt
choice_parts_hold columns variables count before n m (a ▸ b ▸ t ▸ u ▸ none) = tt
choice_parts_hold columns variables count before n m (a ▸ b ▸ t ▸ u ▸ x ▸ ts) =
    let c = length columns.own in
    let v = suc (length variables) in
    let all = variables ++ parameters_in b in
    both_holds (λ (l : List ℕ × List (List ℕ)). length l.1 ≡ length (parameters_in b)) (λ q. Branched c (suc (length all)) count (the_branch q)) (λ p. Branched c v count (the_choice p)) pair
    (label_reading variables before m a b) _
    (label_holds variables before m a b) (branch_parts_hold columns all count n (m + item_count a + item_count b) (t ▸ u ▸ x ▸ ts))
    (λ l q h g. (subst (λ k. branch_is_resolved c k (the_branch q) ≡ true) (behind variables (parameters_in b) (length l.1) h) g.0, g.1))

choice_holds : (columns : Columns) (variables : List (List ℕ)) (count : Option ℕ) (before : List (List ℕ)) (n : ℕ) (t : Tree)
    → Holds (Branched (length columns.own) (suc (length variables)) count) (choice_reading columns variables count before n t)
choice_holds columns variables count before n t =
    let P = Branched (length columns.own) (suc (length variables)) count in
    let N = choice_parts_reading columns variables count before in
    mapped_holds (λ p. P (the_choice p)) P the_choice _ (behind_holds (λ p. P (the_choice p)) (codes "choice") N n t (choice_parts_hold columns variables count before)) (λ p h. h)

choices_hold : (columns : Columns) (variables : List (List ℕ)) (count : Option ℕ) (before : List (List ℕ)) (m : ℕ) (ts : Trees)
    → Holds (AllBranched (length columns.own) (suc (length variables)) count) (declared_reading (choice_reading columns variables count) second_name before m ts)
choices_hold columns variables count before m none = (refl, λ k e. refl)
choices_hold columns variables count before m (t ▸ ts) =
    let c = length columns.own in
    let v = suc (length variables) in
    both_holds (Branched c v count) (AllBranched c v count) (AllBranched c v count) (λ b bs. b ∷ bs) _ _
    (choice_holds columns variables count before m t) (choices_hold columns variables count (before ++ second_name t) (m + item_count t) ts) (more_branched c v count)

ways_hold : (columns : Columns) (variables : List (List ℕ)) (count : Option ℕ) (m : ℕ) (ts : Trees)
    → Holds (AllBranched (length columns.own) (suc (length variables)) count) (ways_reading columns variables count m ts)
ways_hold columns variables count m ts =
    if_holds (AllBranched (length columns.own) (suc (length variables)) count) (begin_with_choice ts) _ _ (choices_hold columns variables count [] m ts) (branches_hold columns variables count m ts)

-- the count of replies that is expected fits
small_fits : (k : ℕ) → nat_lt reply_limit k ≡ false → fits_i64 (pos k) ≡ true
small_fits k e = grind (arith, nat_tests)

due_of : (k : ℕ) (b : Bool) → b ≡ true → fitting_natural (cond b (fits (pos k)) beyond) ≡ Some k
due_of k true e = refl
due_of k false e = absurd (cc)

due_is : (o : Option ℤ) (k : ℕ) → natural o ≡ Some k → nat_lt reply_limit k ≡ false → fitting_natural (integer_within o) ≡ Some k
due_is None k e g = absurd (cc)
due_is (Some (negsuc n)) k e g = absurd (cc)
due_is (Some (pos n)) k e g =
    let same : n ≡ k = cc in
    due_of n (fits_i64 (pos n)) (small_fits n (ap (nat_lt reply_limit) same ∙ g)) ∙ ap Some same

few_small : (n : ℕ) (o : Option ℕ) → Holds (λ k. (o ≡ Some k) × (nat_lt reply_limit k ≡ false)) (few n o)
few_small n None = tt
few_small n (Some k) = by_test (nat_lt reply_limit k) refl where
  by_test : (b : Bool) → nat_lt reply_limit k ≡ b → Holds (λ j. (Some k ≡ Some j) × (nat_lt reply_limit j ≡ false)) (cond b (wrong Bound n) (fine k))
  by_test true e = tt
  by_test false e = (refl, e)

count_holds : (n : ℕ) (t : Tree) → Holds (λ k. count_in t ≡ Some k) (count_reading n t)
count_holds n (list ts) = tt
count_holds n (atom w) = weaker (few n (natural (integer_of w))) (few_small n (natural (integer_of w))) where
  weaker : (r : Reading ℕ) → Holds (λ k. (natural (integer_of w) ≡ Some k) × (nat_lt reply_limit k ≡ false)) r → Holds (λ k. count_in (atom w) ≡ Some k) r
  weaker (fine k) h = due_is (integer_of w) k h.0 h.1
  weaker (flawed f) h = tt

-- arguments
arguments_hold : (n : ℕ) (t : Tree) → Holds (λ ws. suc (length (variables_in t)) ≡ 2 + length ws) (arguments_reading n t)
arguments_hold n (atom w) = tt
arguments_hold n (list ts) = counted (declared_reading (name_reading (Some (1 + argument_limit))) declared_by client (n + 1) ts) (declared_counts (name_reading (Some (1 + argument_limit))) declared_by (one_name (Some 4)) client (n + 1) ts) where
  counted : (r : Reading (List (List ℕ))) → Holds (λ ws. length ws ≡ length (all_declared declared_by ts)) r → Holds (λ ws. suc (length (client ++ all_declared declared_by ts)) ≡ 2 + length ws) r
  counted (fine ws) h = omega (arith, h, length-append client (all_declared declared_by ts))
  counted (flawed f) h = tt

-- operations
abbrev OperationMade : ℕ → ((List ℕ × List (List ℕ)) × ℕ) × List Branch → Type 0
OperationMade c p = operation_is_resolved c (the_operation p) ≡ true

operation_made : (c v : ℕ) (count : Option ℕ) (name : List ℕ) (ws : List (List ℕ)) (k : ℕ) (bs : List Branch) → v ≡ 2 + length ws → count ≡ Some k → AllBranched c v count bs → OperationMade c (((name, ws), k), bs)
operation_made c v count name ws k bs e g h =
    and_from (list_all (resolved_behind c (2 + length ws)) bs) (list_all (λ (b : Branch). length b.replies == k) bs)
    (subst (λ v. list_all (resolved_behind c v) bs ≡ true) e h.0) (h.1 k g)

operation_parts_hold : (columns : Columns) (before : List (List ℕ)) (n m : ℕ) (ts : Trees) → Holds (OperationMade (length columns.own)) (operation_parts_reading columns before n m ts)
operation_parts_hold columns before n m none = tt
operation_parts_hold columns before n m (t ▸ none) = tt
operation_parts_hold columns before n m (t ▸ u ▸ none) = tt
operation_parts_hold columns before n m (t ▸ u ▸ x ▸ none) = tt
operation_parts_hold columns before n m (t ▸ u ▸ x ▸ b ▸ bs) =
    let c = length columns.own in
    let v = suc (length (variables_in u)) in
    both_holds (λ (p : (List ℕ × List (List ℕ)) × ℕ). (v ≡ 2 + length p.0.1) × (count_in x ≡ Some p.1)) (AllBranched c v (count_in x)) (OperationMade c) pair _ _
    (three_holds (λ (w : List ℕ). Unit {0}) (λ ws. v ≡ 2 + length ws) (λ k. count_in x ≡ Some k) (λ (p : (List ℕ × List (List ℕ)) × ℕ). (v ≡ 2 + length p.0.1) × (count_in x ≡ Some p.1)) triple _ _ _
    (holds_unit (name_reading None before m t)) (arguments_hold (m + item_count t) u) (count_holds (m + item_count t + item_count u) x) (λ w ws k h g e. (g, e)))
    (ways_hold columns (variables_in u) (count_in x) (m + item_count t + item_count u + item_count x) (b ▸ bs))
    (λ p bs h g. operation_made c v (count_in x) p.0.0 p.0.1 p.1 bs h.0 h.1 g)

operation_holds : (columns : Columns) (before : List (List ℕ)) (n : ℕ) (t : Tree) → Holds (λ o. operation_is_resolved (length columns.own) o ≡ true) (operation_reading columns before n t)
operation_holds columns before n t =
    let c = length columns.own in
    limited_holds (λ o. operation_is_resolved c o ≡ true) (is_full (Some operation_limit) (length before)) n _
    (mapped_holds (OperationMade c) (λ o. operation_is_resolved c o ≡ true) the_operation _
    (behind_holds (OperationMade c) (codes "op") (operation_parts_reading columns before) n t (operation_parts_hold columns before)) (λ p h. h))

-- columns
column_parts_hold : (before : List (List ℕ)) (n m : ℕ) (ts : Trees) → Holds (λ p. length (first_name (list ts)) ≡ 1) (column_parts_reading before n m ts)
column_parts_hold before n m none = tt
column_parts_hold before n m (t ▸ none) = tt
column_parts_hold before n m (t ▸ u ▸ none) = tt
column_parts_hold before n m (t ▸ u ▸ x ▸ ts) =
    ended_holds (λ p. length (declared_by t) ≡ 1) _ ts _
    (three_holds (λ w. length (declared_by t) ≡ 1) (λ z. Unit {0}) (λ z. Unit {0}) (λ p. length (declared_by t) ≡ 1) triple _ _ _
    (one_name None before m t) (holds_unit (number_reading (m + item_count t) u)) (holds_unit (number_reading (m + item_count t + item_count u) x)) (λ w z y h g e. h))

column_list_holds : (before : List (List ℕ)) (n : ℕ) (t : Tree) → Holds (λ p. length (first_name t) ≡ 1) (listed_reading (column_parts_reading before) n t)
column_list_holds before n (atom w) = tt
column_list_holds before n (list ts) = column_parts_hold before n (n + 1) ts

pub column_holds : (before : List (List ℕ)) (n : ℕ) (t : Tree) → Holds (λ d. length (first_name t) ≡ 1) (column_reading before n t)
column_holds before n t =
    mapped_holds (λ p. length (first_name t) ≡ 1) (λ d. length (first_name t) ≡ 1) the_column _
    (limited_holds (λ p. length (first_name t) ≡ 1) (is_full (Some column_limit) (length before)) n _ (column_list_holds before n t)) (λ p h. h)

columns_counted : (n : ℕ) (w : List ℕ) (ts : Trees) (b : Bool) → is w (codes "abstract") ≡ b
    → Holds (λ ds. length ds ≡ length (cond b (all_declared first_name ts) [])) (cond b (declared_reading column_reading first_name [] (n + 2) ts) (wrong Shape n))
columns_counted n w ts true e = declared_counts column_reading first_name column_holds [] (n + 2) ts
columns_counted n w ts false e = tt

columns_hold : (n : ℕ) (t : Tree) → Holds (λ ds. length ds ≡ length (columns_in t)) (columns_reading n t)
columns_hold n (atom w) = tt
columns_hold n (list none) = tt
columns_hold n (list (list us ▸ ts)) = tt
columns_hold n (list (atom w ▸ ts)) = columns_counted n w ts (is w (codes "abstract")) refl

-- the whole
abbrev pub IsResolved : (List ℕ × List S.Column) × List Operation → Type 0
IsResolved p = are_resolved (length p.0.1) p.1 ≡ true

parts_hold : (others : List (List ℕ)) (n m : ℕ) (ts : Trees) → Holds IsResolved (specification_parts_reading others n m ts)
parts_hold others n m none = tt
parts_hold others n m (t ▸ none) = tt
parts_hold others n m (t ▸ u ▸ none) = tt
parts_hold others n m (t ▸ u ▸ o ▸ os) =
    let columns : Columns = record { own = columns_in u; others = others } in
    let test = operation_is_resolved (length (columns_in u)) in
    three_holds (λ (w : List ℕ). Unit {0}) (λ ds. length ds ≡ length (columns_in u)) (λ os. are_resolved (length (columns_in u)) os ≡ true) IsResolved triple _ _ _
    (holds_unit (name_reading None [] m t)) (columns_hold (m + item_count t) u)
    (holds_weaker (λ os. (list_all test os ≡ true) × (names_differ os ≡ true)) (λ os. are_resolved (length (columns_in u)) os ≡ true) _ (λ os h. and_from (list_all test os) (names_differ os) h.0 h.1)
    (and_holds (λ os. list_all test os ≡ true) (λ os. names_differ os ≡ true) _
    (declared_holds test (operation_reading columns) second_name (operation_holds columns) [] (m + item_count t + item_count u) (o ▸ os))
    (operations_differ columns (m + item_count t + item_count u) (o ▸ os))))
    (λ w ds os u e g. subst (λ n. are_resolved n os ≡ true) (sym e) g)

-- what a text says is resolved
pub specification_resolved : (others : List (List ℕ)) (n : ℕ) (t : Tree) → Holds (λ (s : Specification). list_all (operation_is_resolved (length s.columns)) s.operations ≡ true) (specification_reading others n t)
specification_resolved others n t =
    mapped_holds IsResolved (λ (s : Specification). list_all (operation_is_resolved (length s.columns)) s.operations ≡ true) the_specification _
    (behind_holds IsResolved (codes "spec") (specification_parts_reading others) n t (parts_hold others))
    (λ p h. left_true (list_all (operation_is_resolved (length p.0.1)) p.1) (names_differ p.1) h)

-- what is read of the parts is resolved
pub parts_resolved : (others : List (List ℕ)) (n m : ℕ) (ts : Trees) (a : Result ((Name × Vec ColumnValue Global) × Vec OperationValue Global) ReadFault) → IsReading specification_parts (specification_parts_reading others n m ts) a
    → IfOk a (λ p. are_resolved (length p.0.1.items) (operations_of p.1) ≡ true)
parts_resolved others n m ts (Err f) h = tt
parts_resolved others n m ts (Ok p) h =
    let resolved : IsResolved (specification_parts p) = holds_of_fine IsResolved (specification_parts_reading others n m ts) (specification_parts p) (parts_hold others n m ts) h in
    subst (λ n. are_resolved n (operations_of p.1) ≡ true) (length-map p.0.1.items column_of) resolved
