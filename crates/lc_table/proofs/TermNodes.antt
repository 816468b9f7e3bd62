-- What a node of a term stands for.
use Rattle.std.proofs.Common.{◌≡◌, rules, tests, Bool, true, ℕ, List, ◌++◌, slice_get, Option, Some, None, is_some, length, ◌<◌, refl, sym, ap, ◌∙◌, subst}
use Rattle.lc_lemmas.proofs.Lists.{kept_left}
use Rattle.lc_table.specs.declared.node.TermNode.{TermNode}
use Rattle.lc_table.specs.declared.node.TermNode.TheVariants.{Number, Variable, Bound, Add, Subtract, Multiply, Read, Base, Store, Affine}
use Rattle.lc_table.specs.declared.node.TermId.{TermId}
use Rattle.lc_table.specs.declared.node.ColExprId.{ColExprId}
use Rattle.lc_table.specs.contracts.node.TermNodePartialEq.TheImpl.{eq-value}
use Rattle.lc_table.specs.Rows.{AreDistinct}
use Rattle.lc_table.specs.Nodes.{Part, term, column, part_of, PartFits, PartBelow, term_in, column_in, as_term, as_column, is_term, is_column, IsTerm, IsColumn}
use Rattle.std.proofs.lemmas.Option.{slice_get_within}

abbrev pub node_eq : TermNode → TermNode → Bool
node_eq = eq-value.it

-- the part at a term's number
pub term-there : (ts : List Part) (k : TermId) → IsTerm ts k → slice_get ts k.0 ≡ Some (term (term_in ts k))
term-there ts k h = by (slice_get ts k.0) h
  where
    by : (o : Option Part) → is_term o ≡ true → o ≡ Some (term (as_term o))
    by (Some (term t)) e = refl
    by (Some (column c)) e = cc
    by None e = cc

pub column-there : (ts : List Part) (k : ColExprId) → IsColumn ts k → slice_get ts k.0 ≡ Some (column (column_in ts k))
column-there ts k h = by (slice_get ts k.0) h
  where
    by : (o : Option Part) → is_column o ≡ true → o ≡ Some (column (as_column o))
    by (Some (column c)) e = refl
    by (Some (term t)) e = cc
    by None e = cc

-- a term's number stands for that term later
pub term-kept : (ts us : List Part) (k : TermId) → IsTerm ts k → term_in (ts ++ us) k ≡ term_in ts k
term-kept ts us k h = ap as_term (kept_left ts us k.0 _ (term-there ts k h))

pub column-kept : (ts us : List Part) (k : ColExprId) → IsColumn ts k → column_in (ts ++ us) k ≡ column_in ts k
column-kept ts us k h = ap as_column (kept_left ts us k.0 _ (column-there ts k h))

pub is_term-kept : (ts us : List Part) (k : TermId) → IsTerm ts k → IsTerm (ts ++ us) k
is_term-kept ts us k h = ap is_term (kept_left ts us k.0 _ (term-there ts k h))

pub is_column-kept : (ts us : List Part) (k : ColExprId) → IsColumn ts k → IsColumn (ts ++ us) k
is_column-kept ts us k h = ap is_column (kept_left ts us k.0 _ (column-there ts k h))

pub part-kept : (ts us : List Part) (n : TermNode) → PartFits ts n → part_of (ts ++ us) n ≡ part_of ts n
part-kept ts us (Number n) f = refl
part-kept ts us (Variable k) f = refl
part-kept ts us (Bound k) f = refl
part-kept ts us (Add a b) f = let x = term-kept ts us a f.0 in let y = term-kept ts us b f.1 in cc
part-kept ts us (Subtract a b) f = let x = term-kept ts us a f.0 in let y = term-kept ts us b f.1 in cc
part-kept ts us (Multiply n a) f = let x = term-kept ts us a f in cc
part-kept ts us (Read c i) f = let x = column-kept ts us c f.0 in let y = term-kept ts us i f.1 in cc
part-kept ts us (Base c) f = refl
part-kept ts us (Store c i v) f = let x = column-kept ts us c f.0 in let y = term-kept ts us i f.1 in let z = term-kept ts us v f.2 in cc
part-kept ts us (Affine a b) f = refl

pub part_fits-kept : (ts us : List Part) (n : TermNode) → PartFits ts n → PartFits (ts ++ us) n
part_fits-kept ts us (Number n) f = tt
part_fits-kept ts us (Variable k) f = tt
part_fits-kept ts us (Bound k) f = tt
part_fits-kept ts us (Add a b) f = (is_term-kept ts us a f.0, is_term-kept ts us b f.1)
part_fits-kept ts us (Subtract a b) f = (is_term-kept ts us a f.0, is_term-kept ts us b f.1)
part_fits-kept ts us (Multiply n a) f = is_term-kept ts us a f
part_fits-kept ts us (Read c i) f = (is_column-kept ts us c f.0, is_term-kept ts us i f.1)
part_fits-kept ts us (Base c) f = tt
part_fits-kept ts us (Store c i v) f = (is_column-kept ts us c f.0, is_term-kept ts us i f.1, is_term-kept ts us v f.2)
part_fits-kept ts us (Affine a b) f = tt

-- nodes that are equal are the same
node_eq-same : (m n : TermNode) → node_eq m n ≡ true → m ≡ n
node_eq-same (Number a) (Number b) h = search (rules, tests)
node_eq-same (Variable a) (Variable b) h = search (rules, tests)
node_eq-same (Bound a) (Bound b) h = search (rules, tests)
node_eq-same (Add a b) (Add c d) h = search (rules, tests)
node_eq-same (Subtract a b) (Subtract c d) h = search (rules, tests)
node_eq-same (Multiply a b) (Multiply c d) h = search (rules, tests)
node_eq-same (Read a b) (Read c d) h = search (rules, tests)
node_eq-same (Base a) (Base b) h = search (rules, tests)
node_eq-same (Store a b c) (Store d e f) h = search (rules, tests)
node_eq-same (Affine a b) (Affine c d) h = search (rules, tests)
node_eq-same _ _ h = cc

node_eq-self : (n : TermNode) → node_eq n n ≡ true
node_eq-self (Number a) = search (rules, tests)
node_eq-self (Variable a) = search (rules, tests)
node_eq-self (Bound a) = search (rules, tests)
node_eq-self (Add a b) = search (rules, tests)
node_eq-self (Subtract a b) = search (rules, tests)
node_eq-self (Multiply a b) = search (rules, tests)
node_eq-self (Read a b) = search (rules, tests)
node_eq-self (Base a) = search (rules, tests)
node_eq-self (Store a b c) = search (rules, tests)
node_eq-self (Affine a b) = search (rules, tests)

pub node_eq-part : (ts : List Part) (m n : TermNode) → node_eq m n ≡ true → part_of ts m ≡ part_of ts n
node_eq-part ts m n h = ap (part_of ts) (node_eq-same m n h)

pub same_term : (ts : List Part) (a b : TermId) → AreDistinct ts → IsTerm ts a → IsTerm ts b → term_in ts a ≡ term_in ts b → a ≡ b
same_term ts a b d p q e =
    ap (λ k. record { 0 = k }) (d a.0 b.0 _ (term-there ts a p) (term-there ts b q ∙ ap (λ t. Some (term t)) (sym e)))

pub same_column : (ts : List Part) (a b : ColExprId) → AreDistinct ts → IsColumn ts a → IsColumn ts b → column_in ts a ≡ column_in ts b → a ≡ b
same_column ts a b d p q e =
    ap (λ k. record { 0 = k }) (d a.0 b.0 _ (column-there ts a p) (column-there ts b q ∙ ap (λ t. Some (column t)) (sym e)))

-- nodes of the same tree are the same
same_node : (ts : List Part) (m n : TermNode) → AreDistinct ts → PartFits ts m → PartFits ts n → part_of ts m ≡ part_of ts n → m ≡ n
same_node ts (Number a) (Number b) d p q e = cc
same_node ts (Variable a) (Variable b) d p q e = cc
same_node ts (Bound a) (Bound b) d p q e = cc
same_node ts (Add a b) (Add x y) d p q e =
    let f : term_in ts a ≡ term_in ts x = cc in let g : term_in ts b ≡ term_in ts y = cc in
    let s = same_term ts a x d p.0 q.0 f in let t = same_term ts b y d p.1 q.1 g in cc
same_node ts (Subtract a b) (Subtract x y) d p q e =
    let f : term_in ts a ≡ term_in ts x = cc in let g : term_in ts b ≡ term_in ts y = cc in
    let s = same_term ts a x d p.0 q.0 f in let t = same_term ts b y d p.1 q.1 g in cc
same_node ts (Multiply k a) (Multiply l x) d p q e =
    let f : term_in ts a ≡ term_in ts x = cc in
    let s = same_term ts a x d p q f in cc
same_node ts (Read a b) (Read x y) d p q e =
    let f : column_in ts a ≡ column_in ts x = cc in let g : term_in ts b ≡ term_in ts y = cc in
    let s = same_column ts a x d p.0 q.0 f in let t = same_term ts b y d p.1 q.1 g in cc
same_node ts (Base a) (Base b) d p q e = let f : a.0 ≡ b.0 = cc in let g : a ≡ b = ap (λ k. record { 0 = k }) f in cc
same_node ts (Store a b c) (Store x y z) d p q e =
    let f : column_in ts a ≡ column_in ts x = cc in let g : term_in ts b ≡ term_in ts y = cc in let h : term_in ts c ≡ term_in ts z = cc in
    let s = same_column ts a x d p.0 q.0 f in let t = same_term ts b y d p.1 q.1 g in let u = same_term ts c z d p.2 q.2 h in cc
same_node ts (Affine a b) (Affine x y) d p q e = cc
same_node ts _ _ d p q e = cc

pub part-node_eq : (ts : List Part) (m n : TermNode) → AreDistinct ts → PartFits ts m → PartFits ts n → part_of ts m ≡ part_of ts n → node_eq m n ≡ true
part-node_eq ts m n d p q e = subst (λ x. node_eq m x ≡ true) (same_node ts m n d p q e) (node_eq-self m)

-- there is a part at this place
pub some-there : (o : Option Part) → is_some o ≡ true → (p : Part) × (o ≡ Some p)
some-there (Some p) h = (p, refl)
some-there None h = cc

term_below : (ts : List Part) (n : ℕ) (k : TermId) → length ts ≡ n → IsTerm ts k → k.0 < n
term_below ts n k len h = subst (λ m. k.0 < m) len (slice_get_within ts k.0 _ (term-there ts k h))

column_below : (ts : List Part) (n : ℕ) (k : ColExprId) → length ts ≡ n → IsColumn ts k → k.0 < n
column_below ts n k len h = subst (λ m. k.0 < m) len (slice_get_within ts k.0 _ (column-there ts k h))

pub part_below : (ts : List Part) (n : ℕ) (m : TermNode) → length ts ≡ n → PartFits ts m → PartBelow n m
part_below ts n (Number a) len f = tt
part_below ts n (Variable a) len f = tt
part_below ts n (Bound a) len f = tt
part_below ts n (Add a b) len f = (term_below ts n a len f.0, term_below ts n b len f.1)
part_below ts n (Subtract a b) len f = (term_below ts n a len f.0, term_below ts n b len f.1)
part_below ts n (Multiply k a) len f = term_below ts n a len f
part_below ts n (Read c i) len f = (column_below ts n c len f.0, term_below ts n i len f.1)
part_below ts n (Base c) len f = tt
part_below ts n (Store c i v) len f = (column_below ts n c len f.0, term_below ts n i len f.1, term_below ts n v len f.2)
part_below ts n (Affine a b) len f = tt
