-- The text that is printed of a term, a column expression or a formula.
use Rattle.std.specs.Prelude.{ℕ, ◌+◌, ◌-◌, min, codes, List, [], ◌++◌}
use Rattle.std.specs.Fmt.{decimal, signed_decimal}
use Rattle.lc_term.specs.Syntax.{Term, Number, Variable, Bound, Add, Subtract, Multiply, Read, Column, Base, Store, Affine}
use Rattle.lc_term.specs.Syntax.{Formula, Le, Eq, Not, And, Or, Implies, Forall, Exists, Formulas, none, more}
use Rattle.lc_text.specs.Spelling.{Spelled}

-- the variable of the quantifier that has d quantifiers around it
abbrev pub binder : ℕ → List ℕ
binder d = codes "b" ++ decimal d

-- a part after a space
abbrev pub spaced : List ℕ → List ℕ
spaced part = codes " " ++ part

abbrev mutual
  -- a term, with d quantifiers around its place
  pub spelled_term : Spelled → ℕ → Term → List ℕ
  spelled_term by d (Number n) = signed_decimal n
  spelled_term by d (Variable k) = by.variable k
  spelled_term by d (Bound k) = binder (d - 1 - k)
  spelled_term by d (Add t u) = codes "(+ " ++ spelled_term by d t ++ spaced (spelled_term by d u) ++ codes ")"
  spelled_term by d (Subtract t u) = codes "(- " ++ spelled_term by d t ++ spaced (spelled_term by d u) ++ codes ")"
  spelled_term by d (Multiply n t) = codes "(* " ++ signed_decimal n ++ spaced (spelled_term by d t) ++ codes ")"
  spelled_term by d (Read c i) = codes "(rd " ++ spelled_column by d c ++ spaced (spelled_term by d i) ++ codes ")"

  -- a column expression, with d quantifiers around its place
  pub spelled_column : Spelled → ℕ → Column → List ℕ
  spelled_column by d (Base c) = by.column c
  spelled_column by d (Store c i v) =
      codes "(store " ++ spelled_column by d c ++ spaced (spelled_term by d i) ++ spaced (spelled_term by d v) ++ codes ")"
  spelled_column by d (Affine a b) = codes "(affine " ++ signed_decimal a ++ spaced (signed_decimal b) ++ codes ")"

-- one quantifier more around a place, as far as 64 bits count
abbrev pub one_deeper : ℕ → ℕ
one_deeper d = min (d + 1) 18446744073709551615

abbrev mutual
  -- a formula, with d quantifiers around it
  pub spelled_formula : Spelled → ℕ → Formula → List ℕ
  spelled_formula by d (Le t u) = codes "(<= " ++ spelled_term by d t ++ spaced (spelled_term by d u) ++ codes ")"
  spelled_formula by d (Eq t u) = codes "(= " ++ spelled_term by d t ++ spaced (spelled_term by d u) ++ codes ")"
  spelled_formula by d (Not f) = codes "(not " ++ spelled_formula by d f ++ codes ")"
  spelled_formula by d (And fs) = codes "(and" ++ spelled_parts by d fs ++ codes ")"
  spelled_formula by d (Or fs) = codes "(or" ++ spelled_parts by d fs ++ codes ")"
  spelled_formula by d (Implies f g) = codes "(=> " ++ spelled_formula by d f ++ spaced (spelled_formula by d g) ++ codes ")"
  spelled_formula by d (Forall f) = codes "(forall " ++ binder d ++ spaced (spelled_formula by (one_deeper d) f) ++ codes ")"
  spelled_formula by d (Exists f) = codes "(exists " ++ binder d ++ spaced (spelled_formula by (one_deeper d) f) ++ codes ")"

  -- parts, each after a space
  pub spelled_parts : Spelled → ℕ → Formulas → List ℕ
  spelled_parts by d none = []
  spelled_parts by d (more f fs) = spaced (spelled_formula by d f) ++ spelled_parts by d fs
