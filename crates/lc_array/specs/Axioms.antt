-- The axioms of columns, as formulas. Each is true in every state.
use Rattle.std.specs.Prelude.{ℤ, [], ◌∷◌}
use Rattle.lc_term.specs.Syntax.{Term, Number, Add, Multiply, Read, Column, Store, Affine, Formula, Eq, Not, And, Or, formulas}

-- after v is stored at i, which makes d of the column c, the cell at j has v if i and j are the same, and else what
-- it had
abbrev pub written_to : Column → Column → Term → Term → Term → Formula
written_to d c i v j = Or (formulas (
    And (formulas (Eq i j ∷ Eq (Read d j) v ∷ [])) ∷
    And (formulas (Not (Eq i j) ∷ Eq (Read d j) (Read c j) ∷ [])) ∷ []))

abbrev pub written : Column → Term → Term → Term → Formula
written c i v j = written_to (Store c i v) c i v j

-- at one index a column has one number
abbrev pub same_index : Column → Term → Term → Formula
same_index c i j = Or (formulas (Not (Eq i j) ∷ Eq (Read c i) (Read c j) ∷ []))

-- the column of m and n has m * i + n at i
abbrev pub affine_cell : ℤ → ℤ → Term → Formula
affine_cell m n i = Eq (Read (Affine m n) i) (Add (Multiply m i) (Number n))
