-- Columns in place of others.
use Rattle.std.specs.Prelude.{ℕ, true, List, Option, is_some, unwrap_or, option_map, option_and_then, slice_get}
use Rattle.lc_base.specs.declared.ids.ColId.{ColId}
use Rattle.lc_term.specs.Places.{Test}
use Rattle.lc_term.specs.Replacement.{Replacement}
use Rattle.lc_term.specs.Syntax.{Base, Variable, Bound}

-- the column in place of column k, if there is one
abbrev pub column_for : List (Option ColId) → ℕ → Option ℕ
column_for columns k = option_and_then (λ (o : Option ColId). option_map (λ (c : ColId). c.0) o) (slice_get columns k)

-- the same, and column k itself if there is none
abbrev pub column_or : (ℕ → Option ℕ) → ℕ → ℕ
column_or to k = unwrap_or (to k) k

-- each column is replaced by the one in its place, and variables stay
abbrev pub renaming : (ℕ → Option ℕ) → Replacement
renaming to = record { columns = λ k. Base (column_or to k); variables = Variable; bounds = Bound }

-- there is a column in place of each; variables are not looked at
abbrev pub covered : (ℕ → Option ℕ) → Test
covered to = record { columns = λ k. is_some (to k); variables = λ k. true; bounds = λ k. true }
