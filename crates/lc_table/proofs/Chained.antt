-- The stores of a column expression of a table, taken one after another from the outside.
use Rattle.std.proofs.Common.{◌≡◌, ℕ, ◌<◌, ◌≤◌, true, List, [], ◌∷◌, ◌++◌, Option, Some, refl, sym, ap, ◌∙◌, subst, arith}
use Rattle.std.specs.Prelude.{IfSome}
use Rattle.lc_term.specs.Chains.{is_store}
use Rattle.lc_term.specs.Syntax as S
use Rattle.lc_table.specs.declared.node.ColExprId.{ColExprId}
use Rattle.lc_table.specs.NodeTables.{Table}
use Rattle.lc_table.specs.NodeChains.{stored_to, below_stores, AreStores}
use Rattle.lc_table.specs.Tables.{parts, column_in, IsColumn}

-- what is at a store's number, which is not above n
pub record IsStoreAt (ts : Table) (n : ℕ) (c : S.Column) (k : ColExprId) : Type 0 where
  pub tree : column_in ts k ≡ c
  pub column : IsColumn ts k
  pub within : k.0 ≤ n
  pub store : is_store c ≡ true

pub below_more : (c : S.Column) (ks : List ColExprId) (k : ColExprId) → below_stores c (ks ++ k ∷ []) ≡ stored_to (below_stores c ks)
below_more c [] k = refl
below_more c (j ∷ ks) k = below_more (stored_to c) ks k

-- one store more, and one less
pub stores_more : (ts : Table) (n : ℕ) (c : S.Column) (ks : List ColExprId) (k : ColExprId) → AreStores ts n c ks → IsStoreAt ts n (below_stores c ks) k → AreStores ts n c (ks ++ k ∷ [])
stores_more ts n c [] k h at = ((at.tree, at.column, at.within, at.store), tt)
stores_more ts n c (j ∷ ks) k h at = (h.0, stores_more ts n (stored_to c) ks k h.1 at)

pub stores_less : (ts : Table) (n : ℕ) (c : S.Column) (ks : List ColExprId) (k : ColExprId) → AreStores ts n c (ks ++ k ∷ []) → AreStores ts n c ks × IsStoreAt ts n (below_stores c ks) k
stores_less ts n c [] k h = (tt, record { tree = h.0.0; column = h.0.1; within = h.0.2; store = h.0.3 })
stores_less ts n c (j ∷ ks) k h = let rest = stores_less ts n (stored_to c) ks k h.1 in ((h.0, rest.0), rest.1)

-- what is taken from the end
pub last_store : (ts : Table) (n : ℕ) (c : S.Column) (all ks : List ColExprId) (k : ColExprId) → all ≡ ks ++ k ∷ [] → AreStores ts n c all →
    AreStores ts n c ks × IsStoreAt ts n (below_stores c ks) k × (below_stores c all ≡ stored_to (column_in ts k))
last_store ts n c all ks k items h =
    let parts = stores_less ts n c ks k (subst (AreStores ts n c) items h) in
    (parts.0, parts.1, ap (below_stores c) items ∙ below_more c ks k ∙ ap stored_to (sym parts.1.tree))

-- a store, of what it stores to
pub store_parts : (c : S.Column) (d : S.Column) (i v : S.Term) → c ≡ S.Store d i v → stored_to c ≡ d
store_parts c d i v e = ap stored_to e

-- the stores so far are around the base
abbrev pub GoneDown : Table → ColExprId → List ColExprId → ColExprId → Type 0
GoneDown ts column ks base =
    AreStores ts column.0 (column_in ts column) ks × (below_stores (column_in ts column) ks ≡ column_in ts base) × IsColumn ts base × (base.0 ≤ column.0)

pub one_down : (ts : Table) (column : ColExprId) (ks all : List ColExprId) (base below : ColExprId) (i v : S.Term) → all ≡ ks ++ base ∷ [] →
    column_in ts base ≡ S.Store (column_in ts below) i v → IsColumn ts below → below.0 < base.0 → GoneDown ts column ks base → GoneDown ts column all below
one_down ts column ks all base below i v items tree is less h =
    let c = column_in ts column in
    let at : IsStoreAt ts column.0 (below_stores c ks) base = record { tree = sym h.1; column = h.2; within = h.3; store = ap is_store (h.1 ∙ tree) } in (
      subst (AreStores ts column.0 c) (sym items) (stores_more ts column.0 c ks base h.0 at),
      ap (below_stores c) items ∙ below_more c ks base ∙ ap stored_to (h.1 ∙ tree),
      is,
      (let within = h.3 in omega arith),
    )

-- what holds of an option's value holds of this value
pub where_some : {A : Type 0} (P : A → Type 0) (o : Option A) (x : A) → o ≡ Some x → IfSome o P → P x
where_some P o x is h = subst (λ q. IfSome q P) is h
