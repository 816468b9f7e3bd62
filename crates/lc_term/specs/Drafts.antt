-- A state, as it is and as it was saved.
use Rattle.std.specs.Prelude.{ℕ, map}
use Rattle.lc_term.specs.Meaning as M
use Rattle.lc_term.specs.State.{state_of, column_at, column_count}
use Rattle.lc_term.specs.Written.{kept_of, taken_back, cells_from}
use Rattle.lc_term.specs.declared.draft.Draft.{Draft}

-- the state with what was written since it was saved
abbrev pub written_in_draft : Draft → M.State
written_in_draft d = state_of d.state

-- the state that was saved
abbrev pub saved_in_draft : Draft → M.State
saved_in_draft d = column_at (map cells_from (taken_back (kept_of d.state) d.done.items))

-- how many columns it has
abbrev pub draft_columns : Draft → ℕ
draft_columns d = column_count d.state
