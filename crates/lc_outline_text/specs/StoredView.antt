-- What clauses see of columns that are each kept once, and of riders by the columns that are stored in.
use Rattle.std.specs.Prelude.{◌≡◌, ℕ, ◌==◌, ◌≤◌, Bool, true, false, codes, if◌then◌else◌, List, [], ◌∷◌, ◌++◌, map, length, slice_index_or, Vec, Option, Some, None}
use Rattle.std.specs.declared.alloc.Global.{Global}
use Rattle.lc_sexp.specs.Trees.{Trees, none, ◌▸◌}
use Rattle.lc_object_text.specs.ObjectNames.{later}
use Rattle.lc_object_text.specs.Sections.{parts_in}
use Rattle.lc_base.specs.declared.ids.ColId.{ColId}
use Rattle.lc_object.specs.View.{columns_of}
use Rattle.lc_outline.specs.Sizes.{Way, no_way, different}
use Rattle.lc_outline_text.specs.Sizes.{columns_stored}
use Rattle.lc_outline_text.specs.Paths.{stands}
use Rattle.lc_outline_text.specs.Declarations.{Declarations, branches_in, choices_in}
use Rattle.lc_outline_text.specs.Views.{columns_marked}
use Rattle.lc_outline_text.specs.declared.stored.Rows.{Rows}
use Rattle.lc_outline_text.specs.declared.stored.Stored.{Stored}
use Rattle.lc_outline_text.specs.declared.column_set.Rounds.{Rounds}
use Rattle.lc_outline_text.specs.declared.column_set.ColumnSet.{ColumnSet}
use Rattle.lc_outline_text.specs.declared.riders.Rider.{Rider}
use Rattle.lc_outline_text.specs.declared.riders.Deed.{Deed}
use Rattle.lc_outline_text.specs.declared.riders.Deed.TheVariants.{Set, Marks}

-- in which round a column was put in last
abbrev pub round_of : Rounds → ℕ → ℕ
round_of r k = slice_index_or r.rounds.items k 0

-- whether it was put in in this round
abbrev pub is_in : ColumnSet → ℕ → Bool
is_in s k = round_of s.rounds k == s.round

abbrev pub listed_in : ColumnSet → List ℕ
listed_in s = columns_of s.columns.items

-- those are listed that were put in in this round, each once, and no round is still to come
pub record IsSet (s : ColumnSet) : Type 0 where
  pub marked : (k : ℕ) → is_in s k ≡ stands (listed_in s) k
  pub once : different (listed_in s) ≡ length s.columns.items
  pub past : (k : ℕ) → round_of s.rounds k ≤ s.round
  pub begun : 1 ≤ s.round

-- the ways past a rider
abbrev pub row_way : ℕ → Vec ColId Global → Way
row_way asked row = record { asked = asked; columns = columns_of row.items }

abbrev pub number_there : Option ColId → List ℕ
number_there None = []
number_there (Some c) = c.0 ∷ []

abbrev pub ways_of_deed : Deed → List Way
ways_of_deed (Set column) = record { asked = 0; columns = number_there column } ∷ []
ways_of_deed (Marks asked rows) = map (row_way asked) rows.now

-- the way on which a rider's condition does not hold, if it has one
abbrev pub none_stored : Bool → List Way
none_stored is_conditional = if is_conditional then no_way ∷ [] else []

abbrev pub ways_of_rider : Rider → List Way
ways_of_rider r = ways_of_deed r.deed ++ none_stored r.is_conditional

abbrev pub ways_of_riders : List Rider → List (List Way)
ways_of_riders rs = map ways_of_rider rs

-- ---- rows of columns, by the columns in them

abbrev pub rows_kept : List (Vec ColId Global) → List (ℕ → Bool)
rows_kept rows = map (λ (row : Vec ColId Global). stands (columns_of row.items)) rows

-- of an action NAME (PARAM ..) F UPDATE ..
abbrev pub acted_kept : List (List ℕ) → Trees → ℕ → Bool
acted_kept columns ts = stands (columns_stored columns (later (later (later ts))))

-- of a branch F (UPDATE ..) (T ..) that notes replies, or settles a call
abbrev pub marked_kept : Bool → List (List ℕ) → Trees → ℕ → Bool
marked_kept is_note columns ts = stands (columns_marked is_note columns ts)

-- of branches, in both manners: when a call is settled, and when its replies are noted
abbrev pub both_kept : List (List ℕ) → List Trees → List (ℕ → Bool) × List (ℕ → Bool)
both_kept columns forms = (map (marked_kept false columns) forms, map (marked_kept true columns) forms)

abbrev pub rows_view : Rows → List (ℕ → Bool) × List (ℕ → Bool)
rows_view rows = (rows_kept rows.settled.items, rows_kept rows.noted.items)

abbrev pub marked_in : Bool → List (ℕ → Bool) × List (ℕ → Bool) → List (ℕ → Bool)
marked_in true rows = rows.1
marked_in false rows = rows.0

-- the columns in the row at a place
abbrev pub kept_at : List (ℕ → Bool) → Option ℕ → ℕ → Bool
kept_at rows None = stands []
kept_at rows (Some k) = slice_index_or rows k (stands [])

-- the rows of those at a place, in one manner
abbrev pub marked_at : Bool → List (List (ℕ → Bool) × List (ℕ → Bool)) → Option ℕ → List (ℕ → Bool)
marked_at is_note all None = []
marked_at is_note all (Some k) = marked_in is_note (slice_index_or all k ([], []))

-- what comes after the word of each branch
abbrev pub branch_parts : Trees → List Trees
branch_parts none = []
branch_parts (b ▸ bs) = parts_in (codes "branch") b ∷ branch_parts bs

-- what comes after the name and the parameters of a choice
abbrev pub behind_parameters : Trees → Trees
behind_parameters ts = later (later ts)

abbrev pub by_branches : List (List ℕ) → Trees → List (ℕ → Bool) × List (ℕ → Bool)
by_branches columns operation = both_kept columns (branch_parts (branches_in operation))

abbrev pub by_choices : List (List ℕ) → List Trees → List (ℕ → Bool) × List (ℕ → Bool)
by_choices columns choices = both_kept columns (map behind_parameters choices)

-- these are the columns in which is stored by what is declared
pub record IsStored (d : Declarations) (s : Stored) : Type 0 where
  pub actions : rows_kept s.actions.items ≡ map (acted_kept d.declared.columns) d.actions
  pub branches : map rows_view s.branches.items ≡ map (by_branches d.declared.columns) d.operations
  pub choices : map rows_view s.choices.items ≡ map (λ operation. by_choices d.declared.columns (choices_in operation)) d.operations
  pub nothing : rows_view s.nothing ≡ both_kept d.declared.columns (none ∷ [])
