-- The s-expression that is printed of a term, a column expression or a formula, and which of them read back.
use Rattle.std.specs.Prelude.{◌≡◌, ℕ, zero, suc, ◌+◌, ◌-◌, ◌<◌, ◌^◌, true, codes, List, [], ◌∷◌, ◌++◌}
use Rattle.std.specs.Fmt.{signed_decimal}
use Rattle.lc_sexp.specs.Trees.{Tree, Trees, atom, list, none, ◌▸◌}
use Rattle.lc_sexp.specs.Parts.{fits_i64}
use Rattle.lc_term.specs.Syntax as S
use Rattle.lc_term.specs.Syntax.{Term, Number, Variable, Bound, Add, Subtract, Multiply, Read, Column, Base, Store, Affine}
use Rattle.lc_term.specs.Syntax.{Formula, Le, Eq, Not, And, Or, Implies, Forall, Exists, Formulas, more}
use Rattle.lc_text.specs.Names.{Names}
use Rattle.lc_text.specs.Spelling.{Spelled}
use Rattle.lc_text.specs.Spelled.{binder, one_deeper}
use Rattle.lc_reading.specs.Readings.{fine}
use Rattle.lc_text.specs.declared.scope.Extra.TheVariants.{Quantifiers, BuiltColumns}
use Rattle.lc_text.specs.Terms.{atom_reading, base_reading}

-- a list of a word and two parts
abbrev pub form : List ℕ → Tree → Tree → Tree
form word t u = list (atom word ▸ t ▸ u ▸ none)

abbrev mutual
  -- what is printed for a term with d quantifiers around its place
  pub term_tree : Spelled → ℕ → Term → Tree
  term_tree by d (Number n) = atom (signed_decimal n)
  term_tree by d (Variable k) = atom (by.variable k)
  term_tree by d (Bound k) = atom (binder (d - 1 - k))
  term_tree by d (Add t u) = form (codes "+") (term_tree by d t) (term_tree by d u)
  term_tree by d (Subtract t u) = form (codes "-") (term_tree by d t) (term_tree by d u)
  term_tree by d (Multiply n t) = form (codes "*") (atom (signed_decimal n)) (term_tree by d t)
  term_tree by d (Read c i) = form (codes "rd") (column_tree by d c) (term_tree by d i)

  -- the same for a column expression
  pub column_tree : Spelled → ℕ → Column → Tree
  column_tree by d (Base c) = atom (by.column c)
  column_tree by d (Store c i v) = list (atom (codes "store") ▸ column_tree by d c ▸ term_tree by d i ▸ term_tree by d v ▸ none)
  column_tree by d (Affine a b) = form (codes "affine") (atom (signed_decimal a)) (atom (signed_decimal b))

abbrev mutual
  -- the same for a formula
  pub formula_tree : Spelled → ℕ → Formula → Tree
  formula_tree by d (Le t u) = form (codes "<=") (term_tree by d t) (term_tree by d u)
  formula_tree by d (Eq t u) = form (codes "=") (term_tree by d t) (term_tree by d u)
  formula_tree by d (Not f) = list (atom (codes "not") ▸ formula_tree by d f ▸ none)
  formula_tree by d (And fs) = list (atom (codes "and") ▸ formula_trees by d fs)
  formula_tree by d (Or fs) = list (atom (codes "or") ▸ formula_trees by d fs)
  formula_tree by d (Implies f g) = form (codes "=>") (formula_tree by d f) (formula_tree by d g)
  formula_tree by d (Forall f) = form (codes "forall") (atom (binder d)) (formula_tree by (one_deeper d) f)
  formula_tree by d (Exists f) = form (codes "exists") (atom (binder d)) (formula_tree by (one_deeper d) f)

  -- the same for each part
  pub formula_trees : Spelled → ℕ → Formulas → Trees
  formula_trees by d S.none = none
  formula_trees by d (more f fs) = formula_tree by d f ▸ formula_trees by d fs

-- the names that d quantifiers bind, from the outermost
abbrev pub binders : ℕ → List (List ℕ)
binders zero = []
binders (suc d) = binders d ++ (binder d ∷ [])

abbrev mutual
  -- a term with d quantifiers around its place reads back: numbers have 64 bits, bound variables are those of
  -- these quantifiers, names are spelled as they are read, and what is not allowed everywhere is allowed here
  pub TermReadsBack : Names → Spelled → ℕ → Term → Type 0
  TermReadsBack names by d (Number n) = fits_i64 n ≡ true
  TermReadsBack names by d (Variable k) = (n : ℕ) → atom_reading names (binders d) n (by.variable k) ≡ fine (Variable k)
  TermReadsBack names by d (Bound k) = k < d
  TermReadsBack names by d (Add t u) = TermReadsBack names by d t × TermReadsBack names by d u
  TermReadsBack names by d (Subtract t u) = TermReadsBack names by d t × TermReadsBack names by d u
  TermReadsBack names by d (Multiply n t) = (fits_i64 n ≡ true) × TermReadsBack names by d t
  TermReadsBack names by d (Read c i) = ColumnReadsBack names by d c × TermReadsBack names by d i

  -- the same for a column expression
  pub ColumnReadsBack : Names → Spelled → ℕ → Column → Type 0
  ColumnReadsBack names by d (Base c) = (reader n : ℕ) → base_reading names reader n (by.column c) ≡ fine (Base c)
  ColumnReadsBack names by d (Store c i v) =
      (names.allows BuiltColumns ≡ true) × ColumnReadsBack names by d c × TermReadsBack names by d i × TermReadsBack names by d v
  ColumnReadsBack names by d (Affine a b) = (names.allows BuiltColumns ≡ true) × (fits_i64 a ≡ true) × (fits_i64 b ≡ true)

abbrev mutual
  -- the same for a formula, with at most 2 ^ 32 quantifiers around each place
  pub FormulaReadsBack : Names → Spelled → ℕ → Formula → Type 0
  FormulaReadsBack names by d (Le t u) = TermReadsBack names by d t × TermReadsBack names by d u
  FormulaReadsBack names by d (Eq t u) = TermReadsBack names by d t × TermReadsBack names by d u
  FormulaReadsBack names by d (Not f) = FormulaReadsBack names by d f
  FormulaReadsBack names by d (And fs) = FormulasReadBack names by d fs
  FormulaReadsBack names by d (Or fs) = FormulasReadBack names by d fs
  FormulaReadsBack names by d (Implies f g) = FormulaReadsBack names by d f × FormulaReadsBack names by d g
  FormulaReadsBack names by d (Forall f) = (names.allows Quantifiers ≡ true) × (d < 2 ^ 32) × FormulaReadsBack names by (d + 1) f
  FormulaReadsBack names by d (Exists f) = (names.allows Quantifiers ≡ true) × (d < 2 ^ 32) × FormulaReadsBack names by (d + 1) f

  -- the same for each part
  pub FormulasReadBack : Names → Spelled → ℕ → Formulas → Type 0
  FormulasReadBack names by d S.none = Unit {0}
  FormulasReadBack names by d (more f fs) = FormulaReadsBack names by d f × FormulasReadBack names by d fs
