-- The place of a column in a list of columns.
use Rattle.std.specs.Prelude.{◌≡◌, ◌==◌, ℕ, false, List, Some, map, slice_get, take}
use Rattle.lc_base.specs.declared.ids.ColId.{ColId}
use Rattle.lc_term.specs.Lists.{Every}
use Rattle.lc_table.specs.declared.node.ColExprId.{ColExprId}

-- no entry is of this column
abbrev pub HasNone : ℕ → List (ColId × ColExprId) → Type 0
HasNone c ps = Every (λ (p : ColId × ColExprId). (p.0.0 == c) ≡ false) ps

-- its first entry is at this place
pub record IsFirst (c : ℕ) (ps : List (ColId × ColExprId)) (k : ℕ) : Type 0 where
  pub there : slice_get (map (λ (p : ColId × ColExprId). p.0.0) ps) k ≡ Some c
  pub before : HasNone c (take k ps)
