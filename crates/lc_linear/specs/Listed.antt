-- A form as a constant and a list of coefficients, each with its atom.
use Rattle.std.specs.Prelude.{Some, None, ℤ, pos, ◌+ℤ◌, ◌*ℤ◌, if◌then◌else◌, List, [], ◌∷◌}
use Rattle.lc_term.specs.Syntax.{Term}
use Rattle.lc_term.specs.Equal.{term_eq}
use Rattle.lc_linear.specs.Form.{Form}

-- the coefficient listed for an atom, 0 if there is none
abbrev pub coefficient_in : List (Term × ℤ) → Term → ℤ
coefficient_in [] a = pos 0
coefficient_in (e ∷ es) a = if term_eq a e.0 then e.1 else coefficient_in es a

-- the form with this constant and the coefficients listed
abbrev pub listed : ℤ → List (Term × ℤ) → Form
listed n es None = n
listed n es (Some a) = coefficient_in es a

-- its value, where v has the values of the atoms: the constant, and each coefficient times the value of its atom
abbrev pub listed_value : (Term → ℤ) → ℤ → List (Term × ℤ) → ℤ
listed_value v n [] = n
listed_value v n (e ∷ es) = e.1 *ℤ v e.0 +ℤ listed_value v n es
