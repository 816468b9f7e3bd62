-- What a text reads as where a branch of an operation is expected.
use Rattle.std.specs.Prelude.{ℕ, ◌+◌, ◌||◌, codes, if◌then◌else◌, List, [], Option, Some, None}
use Rattle.std.specs.List.{list_any}
use Rattle.lc_sexp.specs.Trees.{Tree, Trees, ◌▸◌, item_count}
use Rattle.lc_text.specs.Names.{Names}
use Rattle.lc_term.specs.Syntax.{Term, Formula}
use Rattle.lc_reading.specs.Listed.{place_of}
use Rattle.lc_reading.specs.Naming.{within, spelled_reading}
use Rattle.lc_reading.specs.Readings.{Reading, wrong, mapped, behind_reading, listed_reading, three_of}
use Rattle.lc_reading.specs.Reserved.{is_system_column}
use Rattle.lc_reading.specs.Rows.{each_reading, counted_reading}
use Rattle.lc_reading.specs.Words.{is}
use Rattle.lc_reading.specs.declared.pass.Pass.TheVariants.{Shape, Unknown}
use Rattle.lc_text.specs.Formulas.{formula_reading}
use Rattle.lc_text.specs.Terms.{triple, term_reading}
use Rattle.lc_term.specs.Updates.{Update}
use Rattle.lc_seq.specs.Sequential.{InOrder}
use Rattle.lc_seq.specs.Specification.{Branch}
use Rattle.lc_spec_text.specs.Scopes.{Columns}

-- the place of a column's name, if the specification declares it. A column that is declared elsewhere may not be stored in
abbrev pub stored : Columns → ℕ → List ℕ → Option ℕ → Reading ℕ
stored columns n w (Some k) = within n w k
stored columns n w None = if is_system_column w || list_any (is w) columns.others then wrong Shape n else wrong Unknown n

-- the item n, where the column of an update is expected
abbrev pub written_reading : Columns → ℕ → Tree → Reading ℕ
written_reading columns n t = spelled_reading (λ w. stored columns n w (place_of columns.own w)) n t

abbrev pub the_update : (ℕ × Term) × Term → Update
the_update p = record { column = p.0.0; index = p.0.1; value = p.1 }

-- COLUMN T T: the parts of the list n, numbered from m on
abbrev pub update_parts_reading : Columns → Names → ℕ → ℕ → Trees → Reading ((ℕ × Term) × Term)
update_parts_reading columns names n m (t ▸ u ▸ v ▸ ts) =
    three_of triple m t u v ts (written_reading columns m t) (term_reading names [] (m + item_count t) u) (term_reading names [] (m + item_count t + item_count u) v)
update_parts_reading columns names n m _ = wrong Shape n

-- (COLUMN T T)
abbrev pub update_reading : Columns → Names → ℕ → Tree → Reading Update
update_reading columns names n t = mapped the_update (listed_reading (update_parts_reading columns names) n t)

-- (UPDATE*)
abbrev pub updates_reading : Columns → Names → ℕ → Tree → Reading (List Update)
updates_reading columns names n t = listed_reading (λ n. each_reading (update_reading columns names)) n t

-- (T*), with exactly `count` terms. Without a count no list has as many
abbrev pub replies_reading : Names → Option ℕ → ℕ → Tree → Reading (List Term)
replies_reading names None n t = wrong Shape n
replies_reading names (Some count) n t = listed_reading (λ n. counted_reading (term_reading names []) n count) n t

abbrev pub the_branch : (Formula × List Update) × List Term → Branch
the_branch p = record { label = InOrder; guard = p.0.0; updates = p.0.1; replies = p.1 }

-- F (UPDATE*) (T*): the parts of the list n, numbered from m on
abbrev pub branch_parts_reading : Columns → Names → Option ℕ → ℕ → ℕ → Trees → Reading ((Formula × List Update) × List Term)
branch_parts_reading columns names count n m (t ▸ u ▸ v ▸ ts) =
    three_of triple m t u v ts (formula_reading names [] m t) (updates_reading columns names (m + item_count t) u)
    (replies_reading names count (m + item_count t + item_count u) v)
branch_parts_reading columns names count n m _ = wrong Shape n

-- (branch F (UPDATE*) (T*)), with `count` replies
abbrev pub branch_reading : Columns → Names → Option ℕ → ℕ → Tree → Reading Branch
branch_reading columns names count n t = mapped the_branch (behind_reading (codes "branch") (branch_parts_reading columns names count) n t)
