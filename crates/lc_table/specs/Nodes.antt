-- The trees that nodes stand for.
use Rattle.std.specs.Prelude.{◌≡◌, ℕ, pos, List, [], ◌∷◌, map, slice_get, Option, Some, None, is_some, Bool, true, false, ◌<◌}
use Rattle.lc_term.specs.Syntax as S
use Rattle.lc_table.specs.declared.node.TermNode.{TermNode}
use Rattle.lc_table.specs.declared.node.TermNode.TheVariants.{Number, Variable, Bound, Add, Subtract, Multiply, Read, Base, Store, Affine}
use Rattle.lc_table.specs.declared.node.FormulaNode.{FormulaNode}
use Rattle.lc_table.specs.declared.node.FormulaNode.TheVariants.{Le, Eq, Not, And, Or, Implies, Forall, Exists}
use Rattle.lc_table.specs.declared.node.TermId.{TermId}
use Rattle.lc_table.specs.declared.node.ColExprId.{ColExprId}
use Rattle.lc_table.specs.declared.node.FormulaId.{FormulaId}

-- a term or a column expression
pub data Part : Type 0 where
  term : S.Term → Part
  column : S.Column → Part

abbrev pub as_term : Option Part → S.Term
as_term (Some (term t)) = t
as_term _ = S.Number (pos 0)

abbrev pub as_column : Option Part → S.Column
as_column (Some (column c)) = c
as_column _ = S.Base 0

abbrev pub as_formula : Option S.Formula → S.Formula
as_formula (Some f) = f
as_formula None = S.And S.none

-- the tree of a number
abbrev pub term_in : List Part → TermId → S.Term
term_in ps k = as_term (slice_get ps k.0)

abbrev pub column_in : List Part → ColExprId → S.Column
column_in ps k = as_column (slice_get ps k.0)

abbrev pub formula_in : List S.Formula → FormulaId → S.Formula
formula_in fs k = as_formula (slice_get fs k.0)

abbrev pub formulas_in : List S.Formula → List FormulaId → List S.Formula
formulas_in fs ks = map (formula_in fs) ks

abbrev pub is_term : Option Part → Bool
is_term (Some (term t)) = true
is_term _ = false

abbrev pub is_column : Option Part → Bool
is_column (Some (column c)) = true
is_column _ = false

-- the number of a term, of a column expression, of a formula
abbrev pub IsTerm : List Part → TermId → Type 0
IsTerm ps k = is_term (slice_get ps k.0) ≡ true

abbrev pub IsColumn : List Part → ColExprId → Type 0
IsColumn ps k = is_column (slice_get ps k.0) ≡ true

abbrev pub IsFormula : List S.Formula → FormulaId → Type 0
IsFormula fs k = is_some (slice_get fs k.0) ≡ true

abbrev pub AreFormulas : List S.Formula → List FormulaId → Type 0
AreFormulas fs [] = Unit {0}
AreFormulas fs (k ∷ ks) = IsFormula fs k × AreFormulas fs ks

-- the tree of a node, over the trees of those before it
abbrev pub part_of : List Part → TermNode → Part
part_of ps (Number n) = term (S.Number n)
part_of ps (Variable k) = term (S.Variable k)
part_of ps (Bound k) = term (S.Bound k)
part_of ps (Add a b) = term (S.Add (term_in ps a) (term_in ps b))
part_of ps (Subtract a b) = term (S.Subtract (term_in ps a) (term_in ps b))
part_of ps (Multiply n a) = term (S.Multiply n (term_in ps a))
part_of ps (Read c i) = term (S.Read (column_in ps c) (term_in ps i))
part_of ps (Base c) = column (S.Base c.0)
part_of ps (Store c i v) = column (S.Store (column_in ps c) (term_in ps i) (term_in ps v))
part_of ps (Affine a b) = column (S.Affine a b)

-- its parts are among those
abbrev pub PartFits : List Part → TermNode → Type 0
PartFits ps (Number n) = Unit {0}
PartFits ps (Variable k) = Unit {0}
PartFits ps (Bound k) = Unit {0}
PartFits ps (Add a b) = IsTerm ps a × IsTerm ps b
PartFits ps (Subtract a b) = IsTerm ps a × IsTerm ps b
PartFits ps (Multiply n a) = IsTerm ps a
PartFits ps (Read c i) = IsColumn ps c × IsTerm ps i
PartFits ps (Base c) = Unit {0}
PartFits ps (Store c i v) = IsColumn ps c × IsTerm ps i × IsTerm ps v
PartFits ps (Affine a b) = Unit {0}

-- its parts have numbers below k
abbrev pub PartBelow : ℕ → TermNode → Type 0
PartBelow k (Number n) = Unit {0}
PartBelow k (Variable v) = Unit {0}
PartBelow k (Bound v) = Unit {0}
PartBelow k (Add a b) = (a.0 < k) × (b.0 < k)
PartBelow k (Subtract a b) = (a.0 < k) × (b.0 < k)
PartBelow k (Multiply n a) = a.0 < k
PartBelow k (Read c i) = (c.0 < k) × (i.0 < k)
PartBelow k (Base c) = Unit {0}
PartBelow k (Store c i v) = (c.0 < k) × (i.0 < k) × (v.0 < k)
PartBelow k (Affine a b) = Unit {0}

-- a term, and no column expression
abbrev pub is_term_node : TermNode → Bool
is_term_node (Base c) = false
is_term_node (Store c i v) = false
is_term_node (Affine a b) = false
is_term_node _ = true

-- the term, the column expression that a node is
abbrev pub term_of_node : List Part → TermNode → S.Term
term_of_node ps n = as_term (Some (part_of ps n))

abbrev pub column_of_node : List Part → TermNode → S.Column
column_of_node ps n = as_column (Some (part_of ps n))

abbrev pub tree_of : List Part → List S.Formula → FormulaNode → S.Formula
tree_of ps fs (Le a b) = S.Le (term_in ps a) (term_in ps b)
tree_of ps fs (Eq a b) = S.Eq (term_in ps a) (term_in ps b)
tree_of ps fs (Not f) = S.Not (formula_in fs f)
tree_of ps fs (And gs) = S.And (S.formulas (formulas_in fs gs.items))
tree_of ps fs (Or gs) = S.Or (S.formulas (formulas_in fs gs.items))
tree_of ps fs (Implies f g) = S.Implies (formula_in fs f) (formula_in fs g)
tree_of ps fs (Forall f) = S.Forall (formula_in fs f)
tree_of ps fs (Exists f) = S.Exists (formula_in fs f)

abbrev pub TreeFits : List Part → List S.Formula → FormulaNode → Type 0
TreeFits ps fs (Le a b) = IsTerm ps a × IsTerm ps b
TreeFits ps fs (Eq a b) = IsTerm ps a × IsTerm ps b
TreeFits ps fs (Not f) = IsFormula fs f
TreeFits ps fs (And gs) = AreFormulas fs gs.items
TreeFits ps fs (Or gs) = AreFormulas fs gs.items
TreeFits ps fs (Implies f g) = IsFormula fs f × IsFormula fs g
TreeFits ps fs (Forall f) = IsFormula fs f
TreeFits ps fs (Exists f) = IsFormula fs f

abbrev pub AllBelow : ℕ → List FormulaId → Type 0
AllBelow k [] = Unit {0}
AllBelow k (g ∷ gs) = (g.0 < k) × AllBelow k gs

-- the formulas in it have numbers below k
abbrev pub PartsBelow : ℕ → FormulaNode → Type 0
PartsBelow k (Le a b) = Unit {0}
PartsBelow k (Eq a b) = Unit {0}
PartsBelow k (Not f) = f.0 < k
PartsBelow k (And gs) = AllBelow k gs.items
PartsBelow k (Or gs) = AllBelow k gs.items
PartsBelow k (Implies f g) = (f.0 < k) × (g.0 < k)
PartsBelow k (Forall f) = f.0 < k
PartsBelow k (Exists f) = f.0 < k
