-- What is said of the state before by numbers of a table that has grown since.
use Rattle.std.proofs.Common.{◌≡◌, List, refl, ap, ap₂, ◌∙◌}
use Rattle.lc_base.specs.declared.ids.ColId.{ColId}
use Rattle.lc_table.specs.NodeTables.{Table}
use Rattle.lc_put.specs.PutNumbers.{columns_at, AreColumns, AreTerms, replacement_at}
use Rattle.lc_term.specs.Replacement.{Replacement, replace, replace_term}
use Rattle.lc_term.specs.Said.{put}
use Rattle.lc_term.specs.Syntax.{Term, Formula}
use Rattle.lc_table.specs.Tables.{term_in, formula_in, IsTerm, HasTerm, HasFormula, Keeps}
use Rattle.lc_table.specs.declared.node.ColExprId.{ColExprId}
use Rattle.lc_table.specs.declared.node.FormulaId.{FormulaId}
use Rattle.lc_table.specs.declared.node.TermId.{TermId}
use Rattle.lc_put.proofs.ByNumber.{columns_still, replacement_still}
use Rattle.lc_table.proofs.Later.{kept_on, term_is, term_still, formula_is}

module _ (old new : Table) (ps qs : List (ColId × ColExprId)) (ks : List TermId) (columns : AreColumns old ps) (terms : AreTerms old ks) (kept : Keeps old new) (same : qs ≡ ps) where
  put_is : replacement_at new qs ks ≡ replacement_at old ps ks
  put_is = ap (λ (rs : List (ColId × ColExprId)). replacement_at new rs ks) same ∙ replacement_still old new ps ks columns terms kept

  pub said_is : (k : TermId) (t : Term) → HasTerm new k t → replace_term (replacement_at new qs ks) (term_in new k) ≡ replace_term (replacement_at old ps ks) t
  said_is k t has = ap₂ (λ (r : Replacement) (u : Term). replace_term r u) put_is (term_is new k t has)

  pub told_is : (k : FormulaId) (f : Formula) → HasFormula new k f → replace (replacement_at new qs ks) (formula_in new k) ≡ replace (replacement_at old ps ks) f
  told_is k f has = ap₂ (λ (r : Replacement) (g : Formula). replace r g) put_is (formula_is new k f has)

-- a value that is said of the state before, stored in columns
pub value_stored : (old mid new : Table) (ps : List (ColId × ColExprId)) (ks : List TermId) (cs : List (ColId × ColExprId)) (c : ColId) (index k v : TermId) (t : Term) →
    AreColumns old ps → AreTerms old ks → AreColumns old cs → IsTerm old index → Keeps old mid → Keeps mid new → HasTerm mid k t → HasTerm new v (replace_term (replacement_at mid ps ks) (term_in mid k)) →
    put (columns_at new cs) (record { column = c.0; index = term_in new index; value = term_in new v })
    ≡ put (columns_at old cs) (record { column = c.0; index = term_in old index; value = replace_term (replacement_at old ps ks) t })
value_stored old mid new ps ks cs c index k v t columns terms stored i kept more has at =
    let all = kept_on old mid new kept more in
    let value : term_in new v ≡ replace_term (replacement_at old ps ks) t = term_is new v _ at ∙ said_is old mid ps ps ks columns terms kept refl k t has in
    λ j. put (columns_still old new cs stored all j) (record { column = c.0; index = term_still old new index i all j; value = value j })
