-- The linear form of a term, number by number: its constant, and its coefficient of each atom.
-- Atoms are the variables, free and bound, and the whole reads of columns.
use Rattle.std.specs.Prelude.{Option, Some, None, ℤ, pos, ◌+ℤ◌, ◌-ℤ◌, ◌*ℤ◌, FitsSigned, if◌then◌else◌}
use Rattle.std.specs.Int.{w128}
use Rattle.lc_term.specs.Syntax.{Term, Number, Variable, Bound, Add, Subtract, Multiply, Read}
use Rattle.lc_term.specs.Equal.{term_eq}

-- where a form has a number: none for the constant, a term for the coefficient of that term as an atom
abbrev pub Place : Type 0
Place = Option Term

-- the number at each place
abbrev pub Form : Type 0
Form = Place → ℤ

-- a number alone
abbrev pub number_form : ℤ → Form
number_form n None = n
number_form n (Some a) = pos 0

-- an atom alone, once
abbrev pub atom_form : Term → Form
atom_form x None = pos 0
atom_form x (Some a) = if term_eq a x then pos 1 else pos 0

-- the linear form of a term
abbrev pub form_of : Term → Form
form_of (Number n) p = number_form n p
form_of (Variable k) p = atom_form (Variable k) p
form_of (Bound k) p = atom_form (Bound k) p
form_of (Add t u) p = form_of t p +ℤ form_of u p
form_of (Subtract t u) p = form_of t p -ℤ form_of u p
form_of (Multiply n t) p = n *ℤ form_of t p
form_of (Read c i) p = atom_form (Read c i) p

-- each number of a term's form fits 128 bits
abbrev pub FormFits : Term → Type 0
FormFits t = (p : Place) → FitsSigned w128 (form_of t p)

-- the form of a term can be made in 128 bits: it fits, and so does the form of each sum, difference and product
-- that the term is made of
abbrev pub HasForm : Term → Type 0
HasForm (Number n) = FormFits (Number n)
HasForm (Variable k) = FormFits (Variable k)
HasForm (Bound k) = FormFits (Bound k)
HasForm (Add t u) = HasForm t × HasForm u × FormFits (Add t u)
HasForm (Subtract t u) = HasForm t × HasForm u × FormFits (Subtract t u)
HasForm (Multiply n t) = HasForm t × FormFits (Multiply n t)
HasForm (Read c i) = FormFits (Read c i)

-- a number or an atom: what is made of no other form
abbrev pub IsLeaf : Term → Type 0
IsLeaf (Add t u) = ⊥
IsLeaf (Subtract t u) = ⊥
IsLeaf (Multiply n t) = ⊥
IsLeaf _ = Unit {0}
