-- A draft of the columns, as it is and as it was saved.
use Rattle.std.specs.Prelude.{ℕ}
use Rattle.lc_term.specs.Drafts as plain
use Rattle.lc_term.specs.Meaning.{State}
use Rattle.lc_ride.specs.declared.draft.Draft.{Draft}

-- the state with what was written since it was saved
abbrev pub written_in_draft : Draft → State
written_in_draft d = plain.written_in_draft d.columns

-- the state that was saved
abbrev pub saved_in_draft : Draft → State
saved_in_draft d = plain.saved_in_draft d.columns

-- how many columns it has
abbrev pub draft_columns : Draft → ℕ
draft_columns d = plain.draft_columns d.columns
