-- What a specification and its states stand for.
use Rattle.std.specs.Prelude.{◌≡◌, ℕ}
use Rattle.lc_base.specs.Name.{bytes_of}
use Rattle.lc_term.specs.Meaning as M
use Rattle.lc_term.specs.State.{state_of, column_count}
use Rattle.lc_seq.specs.Specification.{Specification}
use Rattle.lc_seq.specs.SpecView.{columns_of, operations_of}
use Rattle.lc_seq.specs.declared.specification.TextSpec.{TextSpec}
use Rattle.lc_seq.specs.declared.text_state.TextState.{TextState}

abbrev pub specification_of : TextSpec → Specification
specification_of spec = record { name = bytes_of spec.name; columns = columns_of spec.columns.items; operations = operations_of spec.operations.items }

-- the number in each cell of each column
abbrev pub text_state_of : TextState → M.State
text_state_of state = state_of state.cells

-- the state has `columns` columns
abbrev pub IsStateOf : ℕ → TextState → Type 0
IsStateOf columns state = column_count state.cells ≡ columns
