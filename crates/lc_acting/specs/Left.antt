-- What writes leave in cells.
use Rattle.std.specs.Prelude.{◌≡◌, ℕ, ℤ, List, Bool, true, false, Option, Some, None}
use Rattle.lc_term.specs.Lists.{Every}
use Rattle.lc_term.specs.Meaning.{State}
use Rattle.lc_term.specs.Updates.{Write, stored_all}
use Rattle.lc_cells.specs.Cells.{is_cell}

-- no write is to this cell
abbrev pub LeaveCell : List Write → ℕ → ℤ → Type 0
LeaveCell ws c i = Every (λ (w : Write). is_cell w c i ≡ false) ws

-- writes leave in a cell what one of them stores, whatever was there; or none is to it
abbrev pub IsLeft : List Write → ℕ → ℤ → Option Write → Type 0
IsLeft ws c i None = LeaveCell ws c i
IsLeft ws c i (Some w) = (m : State) → stored_all m ws c i ≡ w.value

-- they leave in the cells that these are to what others leave there
abbrev pub LeaveSame : State → List Write → List Write → List Write → Type 0
LeaveSame m xs ys these = Every (λ (w : Write). stored_all m xs w.column w.index ≡ stored_all m ys w.column w.index) these

-- whether writes leave other columns than others; if not, they leave the same in the cells that they are to
abbrev pub SaysApart : Bool → State → List Write → List Write → Type 0
SaysApart true m xs ys = stored_all m xs ≡ stored_all m ys → ⊥
SaysApart false m xs ys = LeaveSame m xs ys xs
