-- What clauses see of a form that is kept: the number at each place, and the form that it is of trees.
use Rattle.std.specs.Prelude.{◌≡◌, ℕ, Some, None, pos, ◌+ℤ◌, Result, Ok, Err, List, slice_get}
use Rattle.std.specs.Map.{keys_of}
use Rattle.lc_table.specs.NodeTables.{Table}
use Rattle.lc_term.specs.Syntax.{Term}
use Rattle.lc_table.specs.Tables.{term_in, IsTerm}
use Rattle.lc_table.specs.declared.node.TermId.{TermId}
use Rattle.lc_linear.specs.Form as T
use Rattle.lc_linear.specs.Numbered.{Place, Form, listed}
use Rattle.lc_linear.specs.declared.fault.LinFault.{LinFault}
use Rattle.lc_linear.specs.declared.fault.LinFault.TheVariants.{Large, OutOfMemory}
use Rattle.lc_linear.specs.declared.form.LinForm.{LinForm}

-- its number at each place
abbrev pub numbers : LinForm → Form
numbers form = listed form.constant form.coefficients.entries

-- the atoms that it lists, in their order; the coefficients of some may be 0
abbrev pub atoms : LinForm → List TermId
atoms form = keys_of form.coefficients.entries

-- an atom is one of them
abbrev pub IsListed : LinForm → TermId → Type 0
IsListed form a = (place : ℕ) × (slice_get (atoms form) place ≡ Some a)

-- it is the form with these numbers
abbrev pub HasNumbers : LinForm → Form → Type 0
HasNumbers form f = (p : Place) → numbers form p ≡ f p

-- the term a has no number in the table
abbrev pub IsNowhere : Table → Term → Type 0
IsNowhere ts a = (k : TermId) → IsTerm ts k → term_in ts k ≡ a → ⊥

-- the numbers n are those of the form f, its atoms being read in a table: the entry at the number of a term is the
-- coefficient of that term, and there are no other coefficients but 0 on either side
pub record Reads (ts : Table) (n : Form) (f : T.Form) : Type 0 where
  pub constant : n None ≡ f None
  pub terms : (k : TermId) → IsTerm ts k → n (Some k) ≡ f (Some (term_in ts k))
  pub others : (k : TermId) → (IsTerm ts k → ⊥) → n (Some k) ≡ pos 0
  pub nowhere : (a : Term) → IsNowhere ts a → f (Some a) ≡ pos 0

-- it is the form f of trees
abbrev pub IsFormIn : Table → LinForm → T.Form → Type 0
IsFormIn ts form f = Reads ts (numbers form) f

-- from the one to the other the form g of trees is added
abbrev pub AddsIn : Table → LinForm → LinForm → T.Form → Type 0
AddsIn ts old new g = (f : T.Form) → IsFormIn ts old f → IsFormIn ts new (λ p. f p +ℤ g p)

-- a form with Q if P holds, and Large if it does not; neither on `OutOfMemory`
abbrev pub Gives : Result LinForm LinFault → Type 0 → (LinForm → Type 0) → Type 0
Gives (Ok form) P Q = P × Q form
Gives (Err Large) P Q = P → ⊥
Gives (Err OutOfMemory) P Q = Unit {0}

-- the form with these numbers
abbrev pub GivesForm : Result LinForm LinFault → Type 0 → Form → Type 0
GivesForm result P f = Gives result P (λ form. HasNumbers form f)

-- the form that f is in a table
abbrev pub GivesFormIn : Table → Result LinForm LinFault → Type 0 → T.Form → Type 0
GivesFormIn ts result P f = Gives result P (λ form. IsFormIn ts form f)
