-- The stores of a column expression of a table, replaced one after another from the inside.
use Rattle.std.proofs.Common.{◌≡◌, ℕ, ◌≤◌, true, false, List, [], ◌∷◌, ◌++◌, slice_get, Option, Some, None, cond, refl, sym, ap, ◌∙◌, subst}
use Rattle.std.specs.Prelude.{IfSome, nat_eq}
use Rattle.std.specs.Map.{lookup}
use Rattle.lc_term.specs.Chains.{is_store}
use Rattle.lc_term.specs.Replacement.{Replacement, replace_column, replace_term}
use Rattle.lc_term.specs.Substitution.{shifting}
use Rattle.lc_term.specs.Syntax as S
use Rattle.lc_table.specs.declared.node.ColExprId.{ColExprId}
use Rattle.lc_table.specs.declared.node.TermId.{TermId}
use Rattle.lc_table.specs.Nodes.{column as column_part}
use Rattle.lc_table.specs.NodeTables.{Table}
use Rattle.lc_table.specs.NodeChains.{stored_to, below_stores, AreStores}
use Rattle.lc_put.specs.NodeReplacement.{as_part, part_in, replaced_part, AreReplaced}
use Rattle.lc_table.specs.Tables.{parts, column_in, term_in, IsColumn, IsTerm, HasColumn, HasTerm, Keeps}
use Rattle.lc_table.proofs.Later.{column_later, column_is, kept_on, same_store, column_still, is_column_still}
use Rattle.lc_put.proofs.NodeReplacement.{first_term, second_term, column_replaced, column_noted, replaced_later}
use Rattle.lc_table.proofs.TermNodes.{column-there}
use Rattle.lc_table.proofs.Chained.{last_store}

-- a store is replaced, from what it stores to and its terms, which are replaced one after another
pub replaced_store : (r : Replacement) (t0 t1 t2 : Table) (store b : ColExprId) (d : S.Column) (i v : TermId) (l m : TermId) →
    column_in t0 store ≡ S.Store d (term_in t0 i) (term_in t0 v) → IsTerm t0 v → Keeps t0 t1 → Keeps t1 t2 →
    HasColumn t0 b (replace_column r (stored_to (column_in t0 store))) →
    HasTerm t1 l (replace_term r (term_in t0 i)) → HasTerm t2 m (replace_term r (term_in t1 v)) →
    S.Store (column_in t2 b) (term_in t2 l) (term_in t2 m) ≡ replace_column r (column_in t0 store)
replaced_store r t0 t1 t2 store b d i v l m there is k1 k2 below index value =
    let column = column_is t2 b _ (column_later t0 t2 b _ below (kept_on t0 t1 t2 k1 k2)) ∙ ap (λ c. replace_column r (stored_to c)) there in
    same_store _ _ _ _ _ _ column (first_term r t0 t1 t2 i l k2 index) (second_term r r t0 t1 t2 v m refl is k1 value) ∙ sym (ap (replace_column r) there)

-- what a store that is next asks
pub record Next (r : Replacement) (t0 now : Table) (column b k : ColExprId) (ks : List ColExprId) : Type 0 where
  pub there : IsColumn now k
  pub store : is_store (column_in now k) ≡ true
  pub below : HasColumn now b (replace_column r (stored_to (column_in now k)))
  pub within : k.0 ≤ column.0
  pub others : AreStores t0 column.0 (column_in t0 column) ks
  pub same : column_in now k ≡ below_stores (column_in t0 column) ks

pub next_store : (r : Replacement) (t0 now : Table) (column b k : ColExprId) (all ks : List ColExprId) → all ≡ ks ++ k ∷ [] → Keeps t0 now →
    AreStores t0 column.0 (column_in t0 column) all → HasColumn now b (replace_column r (below_stores (column_in t0 column) all)) → Next r t0 now column b k ks
next_store r t0 now column b k all ks items kept stores at =
    let last = last_store t0 column.0 (column_in t0 column) all ks k items stores in
    let still = column_still t0 now k last.1.column kept in
    record {
      there = is_column_still t0 now k last.1.column kept;
      store = ap is_store (still ∙ last.1.tree) ∙ last.1.store;
      below = subst (λ d. HasColumn now b (replace_column r d)) (last.2 ∙ ap stored_to (sym still)) at;
      within = last.1.within;
      others = last.0;
      same = still ∙ last.1.tree;
    }

-- the number of a column expression that is replaced, as the number of a part
pub column_part_at : (r : Replacement) (t0 ts : Table) (k v : ColExprId) → IsColumn t0 k → HasColumn ts v (replace_column r (column_in t0 k))
    → slice_get (parts ts) v.0 ≡ Some (replaced_part r (part_in t0 k.0))
column_part_at r t0 ts k v is h = h ∙ sym (ap (λ o. Some (replaced_part r (as_part o))) (column-there (parts t0) k is))

-- below the stores: what is moved already, or what is no store, which stays
pub moved_below : (added cutoff : ℕ) (ts : Table) (es : List (ℕ × ℕ)) (base b : ColExprId) (known : Option ℕ) → AreReplaced (shifting added cutoff) (parts ts) es → IsColumn ts base →
    IfSome known (λ n. lookup (nat_eq base.0) es ≡ Some n) → (known ≡ None → is_store (column_in ts base) ≡ false) → IfSome known (λ n. b.0 ≡ n) → (known ≡ None → b.0 ≡ base.0) →
    HasColumn ts b (replace_column (shifting added cutoff) (column_in ts base))
moved_below added cutoff ts es base b (Some n) done is found root same rest = ap (slice_get (parts ts)) same ∙ column_replaced (shifting added cutoff) ts es base n done is found
moved_below added cutoff ts es base b None done is found root same rest =
    ap (slice_get (parts ts)) (rest refl) ∙ column-there (parts ts) base is ∙ ap (λ c. Some (column_part c)) (sym (stays (column_in ts base) (root refl)))
  where
    stays : (c : S.Column) → is_store c ≡ false → replace_column (shifting added cutoff) c ≡ c
    stays (S.Base k) h = refl
    stays (S.Store c i v) h = cc
    stays (S.Affine s a) h = refl

-- a store that is replaced is noted
pub store_noted : (r : Replacement) (t0 t2 t3 : Table) (es fs : List (ℕ × ℕ)) (k v : ColExprId) → IsColumn t0 k → Keeps t0 t2 → Keeps t2 t3 → AreReplaced r (parts t2) es →
    HasColumn t3 v (replace_column r (column_in t0 k)) → ((q : ℕ) → lookup (nat_eq q) fs ≡ cond (nat_eq k.0 q) (Some v.0) (lookup (nat_eq q) es)) → AreReplaced r (parts t3) fs
store_noted r t0 t2 t3 es fs k v is before after h at now =
    column_noted r t0 t3 es fs k v.0 is (kept_on t0 t2 t3 before after) (replaced_later r t2 t3 es h after) (column_part_at r t0 t3 k v is at) now
