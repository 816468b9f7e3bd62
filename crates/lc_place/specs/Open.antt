-- Lists that are open at the end of a text.
use Rattle.std.specs.Prelude.{◌≡◌, ℕ, ◌<◌, ◌≤◌, true, List, drop, length, take}
use Rattle.lc_sexp.specs.Reads.{open_count}
use Rattle.lc_place.specs.Items.{begins_list, IsNeverClosed}

-- the list with which the text begins is closed somewhere
abbrev pub IsClosed : List ℕ → Type 0
IsClosed text = (n : ℕ) × (0 < n) × (n ≤ length text) × (open_count (take n text) ≡ 0)

-- each list that begins after the offset is closed
abbrev pub AreClosedBehind : List ℕ → ℕ → Type 0
AreClosedBehind text offset = (k : ℕ) → offset < k → begins_list (drop k text) ≡ true → IsClosed (drop k text)

-- The list at the offset is open at the end, and each that begins after it is closed.
pub record IsInnermostOpen (text : List ℕ) (offset : ℕ) : Type 0 where
  pub begins : begins_list (drop offset text) ≡ true
  pub never : IsNeverClosed (drop offset text)
  pub innermost : AreClosedBehind text offset

-- no list is open at the end
abbrev pub AreAllClosed : List ℕ → Type 0
AreAllClosed text = (k : ℕ) → begins_list (drop k text) ≡ true → IsClosed (drop k text)
