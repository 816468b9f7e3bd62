-- Numbers in later tables.
use Rattle.std.proofs.Common.{◌≡◌, ◌++◌, List, [], ◌∷◌, subst, true, slice_get, is_some, sym, ap, ◌∙◌, append_assoc, append-nil}
use Rattle.std.proofs.lemmas.List.{map-append}
use Rattle.lc_lemmas.proofs.Lists.{kept_left}
use Rattle.lc_term.specs.Syntax as S
use Rattle.lc_table.specs.declared.node.TermId.{TermId}
use Rattle.lc_table.specs.declared.node.ColExprId.{ColExprId}
use Rattle.lc_table.specs.declared.node.FormulaId.{FormulaId}
use Rattle.lc_table.specs.NodeTables.{Table}
use Rattle.lc_table.specs.Rows.{Extends}
use Rattle.lc_table.specs.Nodes.{as_term, as_column, as_formula, is_term, is_column, AreFormulas as AreFormulasIn, formulas_in as formulas_among}
use Rattle.lc_table.specs.Tables.{parts, formulas, term_in, column_in, formula_in, HasTerm, HasColumn, HasFormula, IsTerm, IsColumn, IsFormula, AreFormulas, formulas_in, Keeps}
use Rattle.lc_table.proofs.FormulaNodes.{formula-there, are_formulas-kept, formulas-kept}
use Rattle.lc_table.proofs.TermNodes.{term-there, column-there}

pub term_later : (old new : Table) (k : TermId) (t : S.Term) → HasTerm old k t → Keeps old new → HasTerm new k t
term_later old new k t h kept = ap (λ l. slice_get l k.0) kept.parts_kept.1 ∙ kept_left (parts old) kept.parts_kept.0 k.0 _ h

pub column_later : (old new : Table) (k : ColExprId) (c : S.Column) → HasColumn old k c → Keeps old new → HasColumn new k c
column_later old new k c h kept = ap (λ l. slice_get l k.0) kept.parts_kept.1 ∙ kept_left (parts old) kept.parts_kept.0 k.0 _ h

pub formula_later : (old new : Table) (k : FormulaId) (f : S.Formula) → HasFormula old k f → Keeps old new → HasFormula new k f
formula_later old new k f h kept = ap (λ l. slice_get l k.0) kept.formulas_kept.1 ∙ kept_left (formulas old) kept.formulas_kept.0 k.0 _ h

pub term_is : (ts : Table) (k : TermId) (t : S.Term) → HasTerm ts k t → term_in ts k ≡ t
term_is ts k t h = ap as_term h

pub column_is : (ts : Table) (k : ColExprId) (c : S.Column) → HasColumn ts k c → column_in ts k ≡ c
column_is ts k c h = ap as_column h

pub formula_is : (ts : Table) (k : FormulaId) (f : S.Formula) → HasFormula ts k f → formula_in ts k ≡ f
formula_is ts k f h = ap as_formula h

extends_on : {T : Type 0} (a b c : List T) → Extends a b → Extends b c → Extends a c
extends_on a b c x y = (x.0 ++ y.0, y.1 ∙ ap (λ l. l ++ y.0) x.1 ∙ append_assoc a x.0 y.0)

pub kept_on : (a b c : Table) → Keeps a b → Keeps b c → Keeps a c
kept_on a b c x y = record {
  parts_kept = extends_on _ _ _ x.parts_kept y.parts_kept;
  formulas_kept = extends_on _ _ _ x.formulas_kept y.formulas_kept;
}

pub is_term_later : (old new : Table) (k : TermId) (t : S.Term) → HasTerm old k t → Keeps old new → IsTerm new k
is_term_later old new k t h kept = ap is_term (term_later old new k t h kept)

pub is_column_later : (old new : Table) (k : ColExprId) (c : S.Column) → HasColumn old k c → Keeps old new → IsColumn new k
is_column_later old new k c h kept = ap is_column (column_later old new k c h kept)

pub is_formula_later : (old new : Table) (k : FormulaId) (f : S.Formula) → HasFormula old k f → Keeps old new → IsFormula new k
is_formula_later old new k f h kept = ap is_some (formula_later old new k f h kept)

pub same_store : (c d : S.Column) (i j v w : S.Term) → c ≡ d → i ≡ j → v ≡ w → S.Store c i v ≡ S.Store d j w
same_store c d i j v w a b e = λ p. S.Store (a p) (b p) (e p)

pub formula_still : (old new : Table) (k : FormulaId) → IsFormula old k → Keeps old new → formula_in new k ≡ formula_in old k
formula_still old new k h kept = formula_is new k _ (formula_later old new k _ (formula-there (formulas old) k h) kept)

pub is_formula_still : (old new : Table) (k : FormulaId) → IsFormula old k → Keeps old new → IsFormula new k
is_formula_still old new k h kept = is_formula_later old new k _ (formula-there (formulas old) k h) kept

pub term_still : (old new : Table) (k : TermId) → IsTerm old k → Keeps old new → term_in new k ≡ term_in old k
term_still old new k h kept = term_is new k _ (term_later old new k _ (term-there (parts old) k h) kept)

pub is_term_still : (old new : Table) (k : TermId) → IsTerm old k → Keeps old new → IsTerm new k
is_term_still old new k h kept = is_term_later old new k _ (term-there (parts old) k h) kept

pub are_formulas_still : (old new : Table) (ks : List FormulaId) → AreFormulas old ks → Keeps old new → AreFormulas new ks
are_formulas_still old new ks h kept = subst (λ fs. AreFormulasIn fs ks) (sym kept.formulas_kept.1) (are_formulas-kept (formulas old) kept.formulas_kept.0 ks h)

pub formulas_still : (old new : Table) (ks : List FormulaId) → AreFormulas old ks → Keeps old new → formulas_in new ks ≡ formulas_in old ks
formulas_still old new ks h kept = ap (λ fs. formulas_among fs ks) kept.formulas_kept.1 ∙ formulas-kept (formulas old) kept.formulas_kept.0 ks h

pub keeps_itself : (t : Table) → Keeps t t
keeps_itself t = record { parts_kept = ([], sym (append-nil (parts t))); formulas_kept = ([], sym (append-nil (formulas t))) }

-- one formula more
pub are_formulas_pushed : (old new : Table) (ks : List FormulaId) (k : FormulaId) (f : S.Formula) → AreFormulas old ks → Keeps old new → HasFormula new k f → AreFormulas new (ks ++ k ∷ [])
are_formulas_pushed old new ks k f h kept at = put ks (are_formulas_still old new ks h kept)
  where
    put : (ks : List FormulaId) → AreFormulas new ks → AreFormulas new (ks ++ k ∷ [])
    put [] h = (ap is_some at, tt)
    put (x ∷ xs) h = (h.0, put xs h.1)

pub formulas_pushed : (old new : Table) (ks : List FormulaId) (k : FormulaId) (f : S.Formula) → AreFormulas old ks → Keeps old new → HasFormula new k f
    → formulas_in new (ks ++ k ∷ []) ≡ formulas_in old ks ++ f ∷ []
formulas_pushed old new ks k f h kept at =
    map-append (formula_in new) ks (k ∷ []) ∙ ap (λ xs. xs ++ formula_in new k ∷ []) (formulas_still old new ks h kept) ∙ ap (λ x. formulas_in old ks ++ x ∷ []) (formula_is new k f at)

pub formula_has : (t : Table) (k : FormulaId) → IsFormula t k → HasFormula t k (formula_in t k)
formula_has t k h = formula-there (formulas t) k h

pub term_stands : (ts : Table) (k : TermId) → IsTerm ts k → is_some (slice_get (parts ts) k.0) ≡ true
term_stands ts k h = ap is_some (term-there (parts ts) k h)

pub is_column_still : (old new : Table) (k : ColExprId) → IsColumn old k → Keeps old new → IsColumn new k
is_column_still old new k h kept = is_column_later old new k _ (column-there (parts old) k h) kept

pub column_still : (old new : Table) (k : ColExprId) → IsColumn old k → Keeps old new → column_in new k ≡ column_in old k
column_still old new k h kept = column_is new k _ (column_later old new k _ (column-there (parts old) k h) kept)
