-- A column expression does not pass a test if what some of its stores store to does not.
use Rattle.std.proofs.Common.{◌≡◌, false, List, [], ◌∷◌, Ok, Err, sym, subst}
use Rattle.std.proofs.lemmas.Bool.{and_left}
use Rattle.std.specs.Prelude.{Result, IfErr, IsErrAnd}
use Rattle.lc_term.specs.Places.{Test, column_passes}
use Rattle.lc_term.specs.Syntax as S
use Rattle.lc_table.specs.declared.node.ColExprId.{ColExprId}
use Rattle.lc_table.specs.NodeChains.{stored_to, below_stores}

stored_to_fails : (p : Test) (c : S.Column) → column_passes p (stored_to c) ≡ false → column_passes p c ≡ false
stored_to_fails p (S.Base k) h = h
stored_to_fails p (S.Store c i v) h = and_left _ _ (and_left _ _ h)
stored_to_fails p (S.Affine a b) h = h

pub below_stores_fails : (p : Test) (c : S.Column) (ks : List ColExprId) → column_passes p (below_stores c ks) ≡ false → column_passes p c ≡ false
below_stores_fails p c [] h = h
below_stores_fails p c (k ∷ ks) h = stored_to_fails p c (below_stores_fails p (stored_to c) ks h)

-- of an error that is handed on
pub handed_on : {T E : Type 0} (r : Result T E) (x : E) (P : E → Type 0) → IsErrAnd r (λ y. y ≡ x) → P x → IfErr r P
handed_on (Ok v) x P h p = absurd h
handed_on (Err y) x P h p = subst P (sym h) p
