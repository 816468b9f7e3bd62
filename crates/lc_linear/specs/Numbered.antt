-- Forms as they are kept, whose atoms are numbers of terms: a constant and a list of coefficients, each with its atom.
use Rattle.std.specs.Prelude.{◌≡◌, Bool, nat_eq, Option, Some, None, ℤ, pos, FitsSigned, if◌then◌else◌, List, [], ◌∷◌}
use Rattle.std.specs.Int.{w128}
use Rattle.std.specs.List.{AllByRecursion}
use Rattle.lc_table.specs.declared.node.TermId.{TermId}

-- where a form has a number: none for the constant, the number of a term for its coefficient as an atom
abbrev pub Place : Type 0
Place = Option TermId

-- the number at each place
abbrev pub Form : Type 0
Form = Place → ℤ

abbrev pub is_same : TermId → TermId → Bool
is_same a b = nat_eq a.0 b.0

-- a number alone
abbrev pub number_form : ℤ → Form
number_form n None = n
number_form n (Some a) = pos 0

-- an atom alone, once
abbrev pub atom_form : TermId → Form
atom_form x None = pos 0
atom_form x (Some a) = if is_same a x then pos 1 else pos 0

-- the coefficient listed for an atom, 0 if there is none
abbrev pub coefficient_in : List (TermId × ℤ) → TermId → ℤ
coefficient_in [] a = pos 0
coefficient_in (e ∷ es) a = if is_same a e.0 then e.1 else coefficient_in es a

-- the form with this constant and the coefficients listed
abbrev pub listed : ℤ → List (TermId × ℤ) → Form
listed n es None = n
listed n es (Some a) = coefficient_in es a

-- a form has each coefficient listed
abbrev pub AllHave : Form → List (TermId × ℤ) → Type 0
AllHave f es = AllByRecursion (λ e. f (Some e.0) ≡ e.1) es

-- each coefficient fits 128 bits
abbrev pub AllFit : List (TermId × ℤ) → Type 0
AllFit es = (a : TermId) → FitsSigned w128 (coefficient_in es a)
