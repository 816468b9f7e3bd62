-- Numbers of one table, each with the number of the same tree in another.
use Rattle.std.specs.Prelude.{◌≡◌, ℕ, List, Some, slice_get, nat_eq}
use Rattle.std.specs.Map.{lookup}
use Rattle.lc_table.specs.NodeTables.{Table}
use Rattle.lc_table.specs.Tables.{parts, formulas}
use Rattle.lc_copy.specs.declared.copying.Copied.{Copied}

-- what is at the first number there is at the number beside it here
abbrev pub AreCopied : {T : Type 0} → List T → List T → List (ℕ × ℕ) → Type 0
AreCopied {T} there here es = (k v : ℕ) (t : T) → lookup (nat_eq k) es ≡ Some v → slice_get there k ≡ Some t → slice_get here v ≡ Some t

-- what is copied stands here for the same trees as there
pub record Copies (there here : Table) (copied : Copied) : Type 0 where
  pub parts_copied : AreCopied (parts there) (parts here) copied.parts.entries
  pub formulas_copied : AreCopied (formulas there) (formulas here) copied.formulas.entries
