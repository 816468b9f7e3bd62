-- What a node of a formula stands for.
use Rattle.std.proofs.Common.{◌≡◌, rules, tests, eqb, Bool, true, ℕ, List, [], ◌∷◌, ◌++◌, slice_get, Option, Some, None, is_some, length, ◌<◌, refl, sym, ap, ap₂, ◌∙◌, subst}
use Rattle.std.specs.Cmp.Lexicographic.{pointwise}
use Rattle.std.proofs.lemmas.Bool.Decides.{Decides-eqb}
use Rattle.std.proofs.lemmas.Slice.Eq.{slice_eq-Decides}
use Rattle.std.specs.Bool.{Decides}
use Rattle.lc_lemmas.proofs.Lists.{kept_left}
use Rattle.lc_term.specs.Syntax as S
use Rattle.lc_table.specs.declared.node.FormulaNode.{FormulaNode}
use Rattle.lc_table.specs.declared.node.FormulaNode.TheVariants.{Le, Eq, Not, And, Or, Implies, Forall, Exists}
use Rattle.lc_table.specs.declared.node.FormulaId.{FormulaId}
use Rattle.lc_table.specs.contracts.node.FormulaNodePartialEq.TheImpl.{eq-value}
use Rattle.lc_table.specs.Rows.{AreDistinct}
use Rattle.lc_table.specs.Nodes.{Part, tree_of, TreeFits, term_in, formula_in, formulas_in, as_formula, IsFormula, AreFormulas, AllBelow, PartsBelow}
use Rattle.std.proofs.lemmas.Option.{slice_get_within}
use Rattle.lc_table.proofs.TermNodes.{same_term}

abbrev pub formula_node_eq : FormulaNode → FormulaNode → Bool
formula_node_eq = eq-value.it

pub formula-there : (ts : List S.Formula) (k : FormulaId) → IsFormula ts k → slice_get ts k.0 ≡ Some (formula_in ts k)
formula-there ts k h = by (slice_get ts k.0) h
  where
    by : (o : Option S.Formula) → is_some o ≡ true → o ≡ Some (as_formula o)
    by (Some f) e = refl
    by None e = cc

pub formula-kept : (ts us : List S.Formula) (k : FormulaId) → IsFormula ts k → formula_in (ts ++ us) k ≡ formula_in ts k
formula-kept ts us k h = ap as_formula (kept_left ts us k.0 _ (formula-there ts k h))

pub is_formula-kept : (ts us : List S.Formula) (k : FormulaId) → IsFormula ts k → IsFormula (ts ++ us) k
is_formula-kept ts us k h = ap is_some (kept_left ts us k.0 _ (formula-there ts k h))

pub formulas-kept : (ts us : List S.Formula) (ks : List FormulaId) → AreFormulas ts ks → formulas_in (ts ++ us) ks ≡ formulas_in ts ks
formulas-kept ts us [] h = refl
formulas-kept ts us (k ∷ ks) h = ap₂ (λ x xs. x ∷ xs) (formula-kept ts us k h.0) (formulas-kept ts us ks h.1)

pub are_formulas-kept : (ts us : List S.Formula) (ks : List FormulaId) → AreFormulas ts ks → AreFormulas (ts ++ us) ks
are_formulas-kept ts us [] h = tt
are_formulas-kept ts us (k ∷ ks) h = (is_formula-kept ts us k h.0, are_formulas-kept ts us ks h.1)

pub tree-kept : (ps : List Part) (ts us : List S.Formula) (n : FormulaNode) → TreeFits ps ts n → tree_of ps (ts ++ us) n ≡ tree_of ps ts n
tree-kept ps ts us (Le a b) f = refl
tree-kept ps ts us (Eq a b) f = refl
tree-kept ps ts us (Not g) f = ap S.Not (formula-kept ts us g f)
tree-kept ps ts us (And gs) f = ap (λ fs. S.And (S.formulas fs)) (formulas-kept ts us gs.items f)
tree-kept ps ts us (Or gs) f = ap (λ fs. S.Or (S.formulas fs)) (formulas-kept ts us gs.items f)
tree-kept ps ts us (Implies g h) f = ap₂ S.Implies (formula-kept ts us g f.0) (formula-kept ts us h f.1)
tree-kept ps ts us (Forall g) f = ap S.Forall (formula-kept ts us g f)
tree-kept ps ts us (Exists g) f = ap S.Exists (formula-kept ts us g f)

pub tree_fits-kept : (ps : List Part) (ts us : List S.Formula) (n : FormulaNode) → TreeFits ps ts n → TreeFits ps (ts ++ us) n
tree_fits-kept ps ts us (Le a b) f = f
tree_fits-kept ps ts us (Eq a b) f = f
tree_fits-kept ps ts us (Not g) f = is_formula-kept ts us g f
tree_fits-kept ps ts us (And gs) f = are_formulas-kept ts us gs.items f
tree_fits-kept ps ts us (Or gs) f = are_formulas-kept ts us gs.items f
tree_fits-kept ps ts us (Implies g h) f = (is_formula-kept ts us g f.0, is_formula-kept ts us h f.1)
tree_fits-kept ps ts us (Forall g) f = is_formula-kept ts us g f
tree_fits-kept ps ts us (Exists g) f = is_formula-kept ts us g f

id-Decides : (a b : FormulaId) → Decides (eqb a.0 b.0) (a ≡ b)
id-Decides a b = (λ h. ap (λ k. record { 0 = k }) ((Decides-eqb a.0 b.0).0 h), λ e. (Decides-eqb a.0 b.0).1 (ap (λ k. k.0) e))

ids-Decides : (xs ys : List FormulaId) → Decides (pointwise (λ (a b : FormulaId). eqb a.0 b.0) xs ys) (xs ≡ ys)
ids-Decides xs ys = slice_eq-Decides id-Decides xs ys _ refl

pub same_formula : (ts : List S.Formula) (a b : FormulaId) → AreDistinct ts → IsFormula ts a → IsFormula ts b → formula_in ts a ≡ formula_in ts b → a ≡ b
same_formula ts a b d p q e =
    ap (λ k. record { 0 = k }) (d a.0 b.0 _ (formula-there ts a p) (formula-there ts b q ∙ ap Some (sym e)))

same_formulas : (ts : List S.Formula) (xs ys : List FormulaId) → AreDistinct ts → AreFormulas ts xs → AreFormulas ts ys
    → S.formulas (formulas_in ts xs) ≡ S.formulas (formulas_in ts ys) → xs ≡ ys
same_formulas ts [] [] d p q e = refl
same_formulas ts (x ∷ xs) (y ∷ ys) d p q e =
    let f : formula_in ts x ≡ formula_in ts y = cc in
    let g : S.formulas (formulas_in ts xs) ≡ S.formulas (formulas_in ts ys) = cc in
    ap₂ (λ k ks. k ∷ ks) (same_formula ts x y d p.0 q.0 f) (same_formulas ts xs ys d p.1 q.1 g)
same_formulas ts _ _ d p q e = cc

-- nodes that are equal stand for the same
pub node_eq-tree : (ps : List Part) (ts : List S.Formula) (m n : FormulaNode) → formula_node_eq m n ≡ true → tree_of ps ts m ≡ tree_of ps ts n
node_eq-tree ps ts (And xs) (And ys) h = ap (λ ks. S.And (S.formulas (formulas_in ts ks))) ((ids-Decides xs.items ys.items).0 h)
node_eq-tree ps ts (Or xs) (Or ys) h = ap (λ ks. S.Or (S.formulas (formulas_in ts ks))) ((ids-Decides xs.items ys.items).0 h)
node_eq-tree ps ts (Le a b) (Le c d) h = let e : Le a b ≡ Le c d = search (rules, tests) in ap (tree_of ps ts) e
node_eq-tree ps ts (Eq a b) (Eq c d) h = let e : Eq a b ≡ Eq c d = search (rules, tests) in ap (tree_of ps ts) e
node_eq-tree ps ts (Not a) (Not c) h = let e : Not a ≡ Not c = search (rules, tests) in ap (tree_of ps ts) e
node_eq-tree ps ts (Implies a b) (Implies c d) h = let e : Implies a b ≡ Implies c d = search (rules, tests) in ap (tree_of ps ts) e
node_eq-tree ps ts (Forall a) (Forall c) h = let e : Forall a ≡ Forall c = search (rules, tests) in ap (tree_of ps ts) e
node_eq-tree ps ts (Exists a) (Exists c) h = let e : Exists a ≡ Exists c = search (rules, tests) in ap (tree_of ps ts) e
node_eq-tree ps ts _ _ h = cc

-- nodes that stand for the same are equal
pub tree-node_eq : (ps : List Part) (dp : AreDistinct ps) (ts : List S.Formula) (m n : FormulaNode) → AreDistinct ts → TreeFits ps ts m → TreeFits ps ts n
    → tree_of ps ts m ≡ tree_of ps ts n → formula_node_eq m n ≡ true
tree-node_eq ps dp ts (And xs) (And ys) d p q e =
    let f : S.formulas (formulas_in ts xs.items) ≡ S.formulas (formulas_in ts ys.items) = cc in
    (ids-Decides xs.items ys.items).1 (same_formulas ts xs.items ys.items d p q f)
tree-node_eq ps dp ts (Or xs) (Or ys) d p q e =
    let f : S.formulas (formulas_in ts xs.items) ≡ S.formulas (formulas_in ts ys.items) = cc in
    (ids-Decides xs.items ys.items).1 (same_formulas ts xs.items ys.items d p q f)
tree-node_eq ps dp ts (Le a b) (Le x y) d p q e =
    let f : term_in ps a ≡ term_in ps x = cc in let g : term_in ps b ≡ term_in ps y = cc in
    let s = same_term ps a x dp p.0 q.0 f in let t = same_term ps b y dp p.1 q.1 g in search (rules, tests)
tree-node_eq ps dp ts (Eq a b) (Eq x y) d p q e =
    let f : term_in ps a ≡ term_in ps x = cc in let g : term_in ps b ≡ term_in ps y = cc in
    let s = same_term ps a x dp p.0 q.0 f in let t = same_term ps b y dp p.1 q.1 g in search (rules, tests)
tree-node_eq ps dp ts (Not a) (Not x) d p q e =
    let f : formula_in ts a ≡ formula_in ts x = cc in let s = same_formula ts a x d p q f in search (rules, tests)
tree-node_eq ps dp ts (Implies a b) (Implies x y) d p q e =
    let f : formula_in ts a ≡ formula_in ts x = cc in let g : formula_in ts b ≡ formula_in ts y = cc in
    let s = same_formula ts a x d p.0 q.0 f in let t = same_formula ts b y d p.1 q.1 g in search (rules, tests)
tree-node_eq ps dp ts (Forall a) (Forall x) d p q e =
    let f : formula_in ts a ≡ formula_in ts x = cc in let s = same_formula ts a x d p q f in search (rules, tests)
tree-node_eq ps dp ts (Exists a) (Exists x) d p q e =
    let f : formula_in ts a ≡ formula_in ts x = cc in let s = same_formula ts a x d p q f in search (rules, tests)
tree-node_eq ps dp ts _ _ d p q e = cc

one_below : (ts : List S.Formula) (n : ℕ) (k : FormulaId) → length ts ≡ n → IsFormula ts k → k.0 < n
one_below ts n k len h = subst (λ m. k.0 < m) len (slice_get_within ts k.0 _ (formula-there ts k h))

all_below : (ts : List S.Formula) (n : ℕ) (ks : List FormulaId) → length ts ≡ n → AreFormulas ts ks → AllBelow n ks
all_below ts n [] len h = tt
all_below ts n (k ∷ ks) len h = (one_below ts n k len h.0, all_below ts n ks len h.1)

pub parts_below : (ps : List Part) (ts : List S.Formula) (n : ℕ) (m : FormulaNode) → length ts ≡ n → TreeFits ps ts m → PartsBelow n m
parts_below ps ts n (Le a b) len f = tt
parts_below ps ts n (Eq a b) len f = tt
parts_below ps ts n (Not g) len f = one_below ts n g len f
parts_below ps ts n (And gs) len f = all_below ts n gs.items len f
parts_below ps ts n (Or gs) len f = all_below ts n gs.items len f
parts_below ps ts n (Implies g h) len f = (one_below ts n g len f.0, one_below ts n h len f.1)
parts_below ps ts n (Forall g) len f = one_below ts n g len f
parts_below ps ts n (Exists g) len f = one_below ts n g len f
