-- What a state and an environment of the code stand for.
use Rattle.std.specs.Prelude.{ℕ, ℤ, pos, ◌==◌, unwrap_or, List, length, map, slice_index_or, if◌then◌else◌}
use Rattle.std.specs.Ordering.{int_cmp}
use Rattle.std.specs.BTreeMap.{get}
use Rattle.lc_term.specs.Meaning as M
use Rattle.lc_term.specs.Meaning.{affine, stored}
use Rattle.lc_term.specs.declared.state.Cells.{Cells}
use Rattle.lc_term.specs.declared.state.State.{State}
use Rattle.lc_term.specs.declared.state.Env.{Env}

-- the number written in each cell, else the initial one
abbrev pub cells_of : Cells → ℤ → ℤ
cells_of cells i = unwrap_or (get int_cmp cells.written i) (affine cells.slope cells.start i)

-- the columns in order, each as the numbers in its cells
abbrev pub columns_of : State → List (ℤ → ℤ)
columns_of state = map cells_of state.columns.items

-- the column of a number; 0 in each cell if there is none
abbrev pub column_at : List (ℤ → ℤ) → ℕ → ℤ → ℤ
column_at columns c = slice_index_or columns c (λ i. pos 0)

-- the number in each cell of each column
abbrev pub state_of : State → M.State
state_of state = column_at (columns_of state)

-- how many columns there are
abbrev pub column_count : State → ℕ
column_count state = length (columns_of state)

-- the columns in which nothing is written, each by its two numbers
abbrev pub initial_columns : List (ℤ × ℤ) → List (ℤ → ℤ)
initial_columns numbers = map (λ p. affine p.0 p.1) numbers

-- the state in which nothing is written
abbrev pub initial_state : List (ℤ × ℤ) → M.State
initial_state numbers = column_at (initial_columns numbers)

-- the state with v in cell i of column c
abbrev pub with_cell : M.State → ℕ → ℤ → ℤ → M.State
with_cell s c i v d = if c == d then stored (s d) i v else s d

-- the number of each variable; 0 if there is no such variable
abbrev pub env_of : Env → M.Env
env_of env k = slice_index_or env.values.items k (pos 0)

-- how many variables there are
abbrev pub variable_count : Env → ℕ
variable_count env = length env.values.items
