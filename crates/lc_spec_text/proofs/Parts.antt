-- Parts of an operation and of a specification, as cursors find them.
use Rattle.std.proofs.Common.{◌≡◌, ℕ, ◌+◌, List, [], ◌++◌, Option, None, Ok, refl, sym, ap, ◌∙◌}
use Rattle.lc_sexp.specs.Trees.{Tree, Trees, ◌▸◌, item_count}
use Rattle.lc_sexp.specs.Shown.{rest_of, number_of, owner_of}
use Rattle.lc_sexp.specs.declared.cursor.Cursor.{Cursor}
use Rattle.lc_reading.specs.Naming.{name_reading}
use Rattle.lc_reading.specs.Parts.{IsNext, IsThree, tree_of, place_of}
use Rattle.lc_reading.specs.Readings.{both, three}
use Rattle.lc_reading.specs.declared.part.Part.{Part}
use Rattle.lc_text.specs.Terms.{pair, triple}
use Rattle.lc_spec_text.specs.Scopes.{Columns, branch_names}
use Rattle.lc_spec_text.specs.Branches.{branch_parts_reading}
use Rattle.lc_spec_text.specs.Choices.{parameters_reading, parameters_in, choice_parts_reading, ways_reading}
use Rattle.lc_spec_text.specs.Operations.{arguments_reading, count_reading, count_in, variables_in, operation_parts_reading}
use Rattle.lc_spec_text.specs.Specifications.{columns_reading, columns_in, operations_reading, specification_parts_reading}

-- an operation's parts at i, j and k, of us, and its branches or choices from l on
operation_at : (columns : Columns) (before : List (List ℕ)) (n m i j k l : ℕ) (t u v b : Tree) (us us1 us2 us3 bs : Trees)
    → us ≡ t ▸ us1 → us1 ≡ u ▸ us2 → us2 ≡ v ▸ us3 → us3 ≡ b ▸ bs → i ≡ m → j ≡ m + item_count t → k ≡ j + item_count u → l ≡ k + item_count v
    → operation_parts_reading columns before n m us
    ≡ both pair (three triple (name_reading None before i t) (arguments_reading j u) (count_reading k v)) (ways_reading columns (variables_in u) (count_in v) l us3)
operation_at columns before n m i j k l t u v b us us1 us2 us3 bs e1 e2 e3 e4 a1 a2 a3 a4 = rw (e1, e2, e3, e4, a4, a3, a2, a1) refl

pub operation_found : (columns : Columns) (before : List (List ℕ)) (l first second third ahead : Cursor) (t u v b : Part)
    → IsNext l (Ok t) first → IsNext first (Ok u) second → IsNext second (Ok v) third → IsNext third (Ok b) ahead
    → operation_parts_reading columns before (owner_of l) (number_of l) (rest_of l)
    ≡ both pair (three triple (name_reading None before (place_of t) (tree_of t)) (arguments_reading (place_of u) (tree_of u)) (count_reading (place_of v) (tree_of v)))
    (ways_reading columns (variables_in (tree_of u)) (count_in (tree_of v)) (number_of third) (rest_of third))
operation_found columns before l first second third ahead t u v b (a1, n1) (a2, n2) (a3, n3) (a4, n4) =
    operation_at columns before (owner_of l) (number_of l) (place_of t) (place_of u) (place_of v) (number_of third) (tree_of t) (tree_of u) (tree_of v) (tree_of b)
    (rest_of l) (rest_of first) (rest_of second) (rest_of third) (rest_of ahead) n1.rest n2.rest n3.rest n4.rest
    a1 (a2 ∙ n1.number) (a3 ∙ n2.number ∙ ap (λ m. m + item_count (tree_of u)) (sym a2)) (n3.number ∙ ap (λ m. m + item_count (tree_of v)) (sym a3))

-- a choice's label at i and j, of us, and the rest from k on
choice_at : (columns : Columns) (variables : List (List ℕ)) (count : Option ℕ) (before : List (List ℕ)) (n o m i j k : ℕ) (a b t u v : Tree) (us us1 us2 ts : Trees)
    → us ≡ a ▸ us1 → us1 ≡ b ▸ us2 → us2 ≡ t ▸ u ▸ v ▸ ts → i ≡ m → j ≡ m + item_count a → k ≡ j + item_count b
    → choice_parts_reading columns variables count before n m us
    ≡ both pair (both pair (name_reading None before i a) (parameters_reading variables j b)) (branch_parts_reading columns (branch_names columns.own (variables ++ parameters_in b)) count o k us2)
choice_at columns variables count before n o m i j k a b t u v us us1 us2 ts e1 e2 e3 a1 a2 a3 = rw (e1, e2, e3, a3, a2, a1) refl

pub choice_found : (columns : Columns) (variables : List (List ℕ)) (count : Option ℕ) (before : List (List ℕ)) (l first second : Cursor) (a b : Part) (r : Part × Part × Part × Cursor)
    → IsNext l (Ok a) first → IsNext first (Ok b) second → IsThree second (Ok r)
    → choice_parts_reading columns variables count before (owner_of l) (number_of l) (rest_of l)
    ≡ both pair (both pair (name_reading None before (place_of a) (tree_of a)) (parameters_reading variables (place_of b) (tree_of b)))
    (branch_parts_reading columns (branch_names columns.own (variables ++ parameters_in (tree_of b))) count (owner_of second) (number_of second) (rest_of second))
choice_found columns variables count before l first second a b r (a1, n1) (a2, n2) h =
    choice_at columns variables count before (owner_of l) (owner_of second) (number_of l) (place_of a) (place_of b) (number_of second) (tree_of a) (tree_of b) (tree_of r.0) (tree_of r.1) (tree_of r.2)
    (rest_of l) (rest_of first) (rest_of second) (rest_of r.3) n1.rest n2.rest h.0 a1 (a2 ∙ n1.number) (n2.number ∙ ap (λ m. m + item_count (tree_of b)) (sym a2))

-- a specification's parts
specification_at : (others : List (List ℕ)) (n m i j k : ℕ) (t u o : Tree) (us us1 us2 os : Trees)
    → us ≡ t ▸ us1 → us1 ≡ u ▸ us2 → us2 ≡ o ▸ os → i ≡ m → j ≡ m + item_count t → k ≡ j + item_count u
    → specification_parts_reading others n m us
    ≡ three triple (name_reading None [] i t) (columns_reading j u) (operations_reading (record { own = columns_in u; others = others }) k us2)
specification_at others n m i j k t u o us us1 us2 os e1 e2 e3 a1 a2 a3 = rw (e1, e2, e3, a3, a2, a1) refl

pub specification_found : (others : List (List ℕ)) (l first second ahead : Cursor) (t u o : Part)
    → IsNext l (Ok t) first → IsNext first (Ok u) second → IsNext second (Ok o) ahead
    → specification_parts_reading others (owner_of l) (number_of l) (rest_of l)
    ≡ three triple (name_reading None [] (place_of t) (tree_of t)) (columns_reading (place_of u) (tree_of u))
    (operations_reading (record { own = columns_in (tree_of u); others = others }) (number_of second) (rest_of second))
specification_found others l first second ahead t u o (a1, n1) (a2, n2) (a3, n3) =
    specification_at others (owner_of l) (number_of l) (place_of t) (place_of u) (number_of second) (tree_of t) (tree_of u) (tree_of o)
    (rest_of l) (rest_of first) (rest_of second) (rest_of ahead) n1.rest n2.rest n3.rest
    a1 (a2 ∙ n1.number) (n2.number ∙ ap (λ m. m + item_count (tree_of u)) (sym a2))
