-- What is written to the cells of a state.
use Rattle.std.specs.Prelude.{ℕ, ℤ, ◌<◌, List, [], ◌∷◌, length, map, Option, Some, None, IsSome, OnSome, pos, slice_set, slice_index_or, if◌then◌else◌, unwrap_or}
use Rattle.std.proofs.Props.{props}
use Rattle.lc_term.specs.Meaning.{affine}
use Rattle.std.specs.Ordering.{int_cmp, int_eq}
use Rattle.std.specs.BTreeMap.{get}
use Rattle.lc_term.specs.Updates.{Write}
use Rattle.lc_term.specs.declared.state.Cells.{Cells}
use Rattle.lc_term.specs.declared.state.State.{State}
use Rattle.lc_term.specs.declared.state.Undo.{Undo}

-- what is written in a cell, if anything is
abbrev pub written_in : Cells → ℤ → Option ℤ
written_in cells i = get int_cmp cells.written i

-- what is kept of a column: its two numbers, and what is written in each cell
pub record Kept : Type 0 where
  pub slope : ℤ
  pub start : ℤ
  pub written : ℤ → Option ℤ

abbrev pub kept_in : Cells → Kept
kept_in cells = record { slope = cells.slope; start = cells.start; written = written_in cells }

-- the same with this, or nothing, written in cell i
abbrev pub with_written : Kept → ℤ → Option ℤ → Kept
with_written kept i what = record kept { written = λ j. if int_eq i j then what else kept.written j }

-- what is kept of each column
abbrev pub kept_of : State → List Kept
kept_of state = map kept_in state.columns.items

-- if there is no column
abbrev pub no_column : Kept
no_column = record { slope = pos 0; start = pos 0; written = λ i. None }

-- what is kept with this, or nothing, written in cell i of column c
abbrev pub with_kept : List Kept → ℕ → ℤ → Option ℤ → List Kept
with_kept ks c i what = slice_set ks c (with_written (slice_index_or ks c no_column) i what)

-- what is kept after writes, in order
abbrev pub after_writes : List Kept → List Write → List Kept
after_writes ks [] = ks
after_writes ks (w ∷ ws) = after_writes (with_kept ks w.column w.index (Some w.value)) ws

-- what is kept when cells get back what was written there before; the last is taken back first
abbrev pub taken_back : List Kept → List Undo → List Kept
taken_back ks [] = ks
taken_back ks (u ∷ us) = with_kept (taken_back ks us) u.column.0 u.index u.before

-- what is written in a cell of a column
abbrev pub written_at : List Kept → ℕ → ℤ → Option ℤ
written_at ks c i = (slice_index_or ks c no_column).written i

-- a cell can have again what was written there before without more memory: it is written
abbrev pub CanTakeBack : List Kept → List Undo → Type 0
CanTakeBack ks [] = Unit {0}
CanTakeBack ks (u ∷ us) =
    (u.column.0 < length (taken_back ks us)) × OnSome u.before (IsSome (written_at (taken_back ks us) u.column.0 u.index)) × CanTakeBack ks us

-- the numbers in the cells of what is kept
abbrev pub cells_from : Kept → ℤ → ℤ
cells_from kept i = unwrap_or (kept.written i) (affine kept.slope kept.start i)

below_once : (m n : ℕ) → IsProp (m < n)
below_once m n = hlevel props

some_once : (o p : Option ℤ) → IsProp (OnSome o (IsSome p))
some_once None p x y = λ i. tt
some_once (Some v) None x y = hlevel props
some_once (Some v) (Some w) x y = hlevel props

-- this has one proof at most
pub can_once : (ks : List Kept) (us : List Undo) → IsProp (CanTakeBack ks us)
can_once ks [] x y = λ i. tt
can_once ks (u ∷ us) x y =
    λ i. (
      below_once u.column.0 (length (taken_back ks us)) x.0 y.0 i,
      some_once u.before (written_at (taken_back ks us) u.column.0 u.index) x.1 y.1 i,
      can_once ks us x.2 y.2 i,
    )
