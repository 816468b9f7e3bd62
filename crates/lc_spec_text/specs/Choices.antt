-- What a text reads as where the ways of an operation are expected: branches, or choices.
use Rattle.std.specs.Prelude.{ℕ, ◌+◌, Bool, false, ◌&&◌, if◌then◌else◌, codes, List, [], ◌++◌, length, Option, Some, None}
use Rattle.std.specs.List.{list_any}
use Rattle.lc_base.specs.NameText.{is_name}
use Rattle.lc_base.specs.Limits.{parameter_limit}
use Rattle.lc_sexp.specs.Trees.{Tree, Trees, atom, list, none, ◌▸◌, item_count}
use Rattle.lc_term.specs.Syntax.{Term, Formula}
use Rattle.lc_term.specs.Updates.{Update}
use Rattle.lc_seq.specs.Sequential.{ByName}
use Rattle.lc_seq.specs.Specification.{Branch}
use Rattle.lc_reading.specs.Listed.{declared_by}
use Rattle.lc_reading.specs.Naming.{name_reading}
use Rattle.lc_reading.specs.Parts.{begins}
use Rattle.lc_reading.specs.Readings.{Reading, wrong, mapped, both, behind_reading, listed_reading}
use Rattle.lc_reading.specs.Rows.{second_name, all_declared, declared_reading, each_reading}
use Rattle.lc_reading.specs.Words.{is}
use Rattle.lc_reading.specs.declared.pass.Pass.TheVariants.{Shape}
use Rattle.lc_text.specs.Terms.{pair}
use Rattle.lc_spec_text.specs.Branches.{branch_parts_reading, branch_reading}
use Rattle.lc_spec_text.specs.Scopes.{Columns, branch_names}

-- (PARAM*): names after those of the client and of the arguments, within the limit of parameters
abbrev pub parameters_reading : List (List ℕ) → ℕ → Tree → Reading (List (List ℕ))
parameters_reading variables n t = listed_reading (λ n. declared_reading (name_reading (Some (parameter_limit + length variables))) declared_by variables) n t

-- the item is a name, and one of these
abbrev pub is_one_of : List (List ℕ) → Tree → Bool
is_one_of names (atom w) = is_name w && list_any (is w) names
is_one_of names (list ts) = false

-- the parameters that an item declares
abbrev pub parameters_in : Tree → List (List ℕ)
parameters_in (list ts) = all_declared declared_by ts
parameters_in (atom w) = []

-- NAME (PARAM*), after choices with these names, in an operation with these variables
abbrev pub label_reading : List (List ℕ) → List (List ℕ) → ℕ → Tree → Tree → Reading (List ℕ × List (List ℕ))
label_reading variables before m a b = both pair (name_reading None before m a) (parameters_reading variables (m + item_count a) b)

-- NAME (PARAM*) F (UPDATE*) (T*): the parts of the list n, numbered from m on
abbrev pub choice_parts_reading : Columns → List (List ℕ) → Option ℕ → List (List ℕ) → ℕ → ℕ → Trees → Reading ((List ℕ × List (List ℕ)) × ((Formula × List Update) × List Term))
choice_parts_reading columns variables count before n m (a ▸ b ▸ t ▸ u ▸ v ▸ ts) =
    both pair (label_reading variables before m a b)
    (branch_parts_reading columns (branch_names columns.own (variables ++ parameters_in b)) count n (m + item_count a + item_count b) (t ▸ u ▸ v ▸ ts))
choice_parts_reading columns variables count before n m _ = wrong Shape n

abbrev pub the_choice : (List ℕ × List (List ℕ)) × ((Formula × List Update) × List Term) → Branch
the_choice p = record { label = ByName p.0.0 p.0.1; guard = p.1.0.0; updates = p.1.0.1; replies = p.1.1 }

-- (choice NAME (PARAM*) F (UPDATE*) (T*)), after choices with these names, with `count` replies
abbrev pub choice_reading : Columns → List (List ℕ) → Option ℕ → List (List ℕ) → ℕ → Tree → Reading Branch
choice_reading columns variables count before n t = mapped the_choice (behind_reading (codes "choice") (choice_parts_reading columns variables count before) n t)

-- the first of these is a choice: so are all of them then
abbrev pub begin_with_choice : Trees → Bool
begin_with_choice none = false
begin_with_choice (b ▸ bs) = begins (codes "choice") b

-- BRANCH* or CHOICE*, as the first begins
abbrev pub ways_reading : Columns → List (List ℕ) → Option ℕ → ℕ → Trees → Reading (List Branch)
ways_reading columns variables count m ts =
    if begin_with_choice ts then declared_reading (choice_reading columns variables count) second_name [] m ts
    else each_reading (branch_reading columns (branch_names columns.own variables) count) m ts
