-- The variables of a column expression, from those of its stores.
use Rattle.std.proofs.Common.{◌≡◌, ℕ, ℤ, true, false, ◌&&◌, List, [], ◌∷◌, ap, sym, ◌∙◌}
use Rattle.lc_term.specs.Syntax as S
use Rattle.lc_table.specs.NodeTables.{Table}
use Rattle.lc_table.specs.NodeChains.{stored_to, below_stores, AreStores}
use Rattle.lc_table.specs.declared.node.ColExprId.{ColExprId}
use Rattle.lc_table.specs.Tables.{column_in}
use Rattle.lc_kernel.specs.Below.{term_below, column_below}
use Rattle.lc_kernel.specs.Uses.{AreBelow, same_column}
use Rattle.lc_kernel.specs.declared.uses.KnownBelow.{KnownBelow}
use Rattle.std.specs.HashSet.{contains}

-- a variable that is not below the count occurs in all that is stored around it
pub not_below : (count : ℕ) (ts : Table) (n : ℕ) (c : S.Column) (ks : List ColExprId) → AreStores ts n c ks → column_below count (below_stores c ks) ≡ false → column_below count c ≡ false
not_below count ts n c [] h above = above
not_below count ts n (S.Base a) (k ∷ ks) h above = let never = h.0.3 in cc
not_below count ts n (S.Store c i v) (k ∷ ks) h above = ap (λ b. b && term_below count i && term_below count v) (not_below count ts n c ks h.1 above)
not_below count ts n (S.Affine a b) (k ∷ ks) h above = let never = h.0.3 in cc

-- if what is stored to has its variables below the count, the terms decide
pub store_below : (count : ℕ) (c d : S.Column) (i v : S.Term) → c ≡ S.Store d i v → column_below count (stored_to c) ≡ true → column_below count c ≡ (term_below count i && term_below count v)
store_below count c d i v e h = ap (column_below count) e ∙ ap (λ b. b && term_below count i && term_below count v) (sym (ap (λ x. column_below count (stored_to x)) e) ∙ h)

-- what is known, and what has no store and so no variable
pub known_below : (count : ℕ) (ts : Table) (known : KnownBelow) (k : ColExprId) (c : S.Column) → contains same_column known.columns k ≡ true → c ≡ column_in ts k → AreBelow count ts known → column_below count c ≡ true
known_below count ts known k c found at h = ap (column_below count) at ∙ h.columns_below k found

pub base_below : (count : ℕ) (c d : S.Column) (k : ℕ) → c ≡ d → d ≡ S.Base k → column_below count c ≡ true
base_below count c d k at is = ap (column_below count) (at ∙ is)

pub affine_below : (count : ℕ) (c d : S.Column) (a b : ℤ) → c ≡ d → d ≡ S.Affine a b → column_below count c ≡ true
affine_below count c d a b at is = ap (column_below count) (at ∙ is)
