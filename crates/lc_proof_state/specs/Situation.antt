-- The state that numbers of cells describe.
use Rattle.std.specs.Prelude.{◌≡◌, ◌<◌, ℕ, ℤ, pos, ◌+ℤ◌, ◌*ℤ◌, List, [], ◌∷◌, length, slice_index_or}
use Rattle.lc_term.specs.Lists.{Every}
use Rattle.lc_term.specs.Meaning.{State}
use Rattle.lc_term.specs.Updates.{Write, AreWithin}
use Rattle.lc_proof_state.specs.declared.situation.Content.{Content}
use Rattle.lc_proof_state.specs.declared.situation.Content.TheVariants.{Zero, Spread}

-- the write is to another cell than this one
abbrev pub IsElsewhere : ℕ → ℤ → Write → Type 0
IsElsewhere c i w = w.column ≡ c → w.index ≡ i → ⊥

-- no two of these are to one cell
abbrev pub AreApart : List Write → Type 0
AreApart [] = Unit {0}
AreApart (w ∷ ws) = Every (IsElsewhere w.column w.index) ws × AreApart ws

-- cells of the first `columns` columns, each of them once
pub record AreCells (columns : ℕ) (cells : List Write) : Type 0 where
  pub within : AreWithin columns cells
  pub apart : AreApart cells

-- what a cell of a column has if it is not among those of a state
abbrev pub content_of : Content → ℕ → ℤ → ℤ
content_of Zero c i = pos 0
content_of Spread c i = pos 101 *ℤ i +ℤ (pos c *ℤ pos 10007 +ℤ pos 5003)

-- the numbers a and b of a column that has a * i + b in cell i
abbrev pub numbers_of : Content → ℕ → ℤ × ℤ
numbers_of Zero c = (pos 0, pos 0)
numbers_of Spread c = (pos 101, pos c *ℤ pos 10007 +ℤ pos 5003)

-- these numbers of `columns` columns
pub record AreNumbers (content : Content) (columns : ℕ) (numbers : List (ℤ × ℤ)) : Type 0 where
  pub count : length numbers ≡ columns
  pub each : (c : ℕ) → c < columns → slice_index_or numbers c (pos 0, pos 0) ≡ numbers_of content c

-- the first `columns` columns of the state have this in each cell
abbrev pub IsBlank : Content → ℕ → State → Type 0
IsBlank content columns s = (c : ℕ) (i : ℤ) → c < columns → s c i ≡ content_of content c i

-- the state has the number in the cell
abbrev pub IsThere : State → Write → Type 0
IsThere s w = s w.column w.index ≡ w.value

-- the state has these numbers in these cells, and this content in each other cell of the first `columns` columns
pub record IsOf (content : Content) (columns : ℕ) (s : State) (cells : List Write) : Type 0 where
  pub shown : Every (IsThere s) cells
  pub others : (c : ℕ) (i : ℤ) → c < columns → Every (IsElsewhere c i) cells → s c i ≡ content_of content c i
