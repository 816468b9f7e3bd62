-- Multiples of the nodes of a table that are still to be added to a form.
use Rattle.std.specs.Prelude.{◌≡◌, ℕ, zero, suc, ◌+◌, ◌*◌, ◌^◌, ◌<◌, max, unsigned_abs, length, Some, ℤ, pos, ◌+ℤ◌, ◌*ℤ◌, List, [], ◌∷◌}
use Rattle.std.specs.List.{AllByRecursion}
use Rattle.lc_table.specs.NodeTables.{Table}
use Rattle.lc_table.specs.Tables.{parts, term_in, IsTerm}
use Rattle.lc_table.specs.declared.node.TermId.{TermId}
use Rattle.lc_term.specs.Syntax.{Term}
use Rattle.lc_linear.specs.Form as T
use Rattle.lc_linear.specs.Form.{form_of}
use Rattle.lc_linear.specs.LinForm.{numbers, IsFormIn}
use Rattle.lc_linear.specs.Numbered as N
use Rattle.lc_linear.specs.Weight.{weight}
use Rattle.lc_linear.specs.declared.form.LinForm.{LinForm}

-- the forms of the first nodes of a table, each as often as the numbers n say, added up
abbrev pub multiples : Table → N.Form → ℕ → T.Form
multiples ts n zero p = pos 0
multiples ts n (suc k) p = multiples ts n k p +ℤ n (Some (record { 0 = k })) *ℤ form_of (term_in ts (record { 0 = k })) p

-- the forms of all nodes of a table, in the same way
abbrev pub owed_in : Table → N.Form → T.Form
owed_in ts n p = multiples ts n (length (parts ts)) p

-- what a form has, and what is owed to it, are together the form h
pub record IsTogether (ts : Table) (form rest : LinForm) (h : T.Form) : Type 0 where
  pub made : T.Form
  pub is_made : IsFormIn ts form made
  pub together : (p : T.Place) → made p +ℤ owed_in ts (numbers rest) p ≡ h p

-- from the one form and what is owed to it to the other, what they are together stays the same
abbrev pub StaysTogether : Table → (form rest new_form new_rest : LinForm) → Type 0
StaysTogether ts form rest new_form new_rest = (h : T.Form) → IsTogether ts form rest h → IsTogether ts new_form new_rest h

-- each number that is listed is the weight of its term
abbrev pub AreWeights : Table → List (TermId × ℕ) → Type 0
AreWeights ts es = AllByRecursion (λ e. e.1 ≡ weight (term_in ts e.0)) es

-- terms of a table, each with its multiplier
abbrev pub Multiples : Type 0
Multiples = List (TermId × ℤ)

abbrev pub AreOfTerms : Table → Multiples → Type 0
AreOfTerms ts ms = AllByRecursion (λ m. IsTerm ts m.0) ms

-- the multiples of their forms, added up
abbrev pub total : Table → Multiples → T.Form
total ts [] p = pos 0
total ts (m ∷ ms) p = m.1 *ℤ form_of (term_in ts m.0) p +ℤ total ts ms p

-- the multiples of their weights, each at least once, added up
abbrev pub load : Table → Multiples → ℕ
load ts [] = 0
load ts (m ∷ ms) = max (unsigned_abs m.1) 1 * weight (term_in ts m.0) + load ts ms

-- the form is what they are together, and no number that goes into it can leave 128 bits
pub record IsLightTotal (ts : Table) (ms : Multiples) (form : LinForm) : Type 0 where
  pub is_form : IsFormIn ts form (total ts ms)
  pub light : load ts ms < 2 ^ 127

-- they are together the term t: its parts have numbers, and they have its form and its weight
pub record AreTogether (ts : Table) (ms : Multiples) (t : Term) : Type 0 where
  pub are_terms : AreOfTerms ts ms
  pub form : (p : T.Place) → total ts ms p ≡ form_of t p
  pub heavy : load ts ms ≡ weight t

-- the second list is the first with terms appended that together have this form and this weight
pub record Appends (ts : Table) (old new : Multiples) (g : T.Form) (w : ℕ) : Type 0 where
  pub are_terms : AreOfTerms ts old → AreOfTerms ts new
  pub form : (p : T.Place) → total ts new p ≡ total ts old p +ℤ g p
  pub heavy : load ts new ≡ load ts old + w
