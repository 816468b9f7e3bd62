-- Forms that are made, node by node.
use Rattle.std.specs.Prelude.{◌≡◌, ℕ, List, Option, Some, None, nat_eq}
use Rattle.std.specs.Map.{lookup}
use Rattle.lc_table.specs.NodeTables.{Table}
use Rattle.lc_table.specs.Tables.{term_in}
use Rattle.lc_table.specs.declared.node.TermId.{TermId}
use Rattle.lc_linear.specs.Form.{form_of, HasForm}
use Rattle.lc_linear.specs.LinForm.{IsFormIn}
use Rattle.lc_linear.specs.declared.form.LinForm.{LinForm}

-- the form of a term; none if it has none in 128 bits
abbrev pub IsMade : Table → TermId → Option LinForm → Type 0
IsMade ts k (Some form) = HasForm (term_in ts k) × IsFormIn ts form (form_of (term_in ts k))
IsMade ts k None = HasForm (term_in ts k) → ⊥

-- what is listed beside a term's number is made of it
abbrev pub AreMade : Table → List (ℕ × Option LinForm) → Type 0
AreMade ts es = (k : TermId) (made : Option LinForm) → lookup (nat_eq k.0) es ≡ Some made → IsMade ts k made
