-- Formulas of a table with what is put in, one after another.
use Rattle.std.proofs.Common.{◌≡◌, ℕ, ◌+◌, ◌<◌, List, [], ◌∷◌, ◌++◌, map, take, length, sym, subst, ap, ap₂, ◌∙◌, get_or}
use Rattle.std.proofs.lemmas.List.{map-append, take_more}
use Rattle.lc_base.specs.declared.ids.ColId.{ColId}
use Rattle.lc_put.specs.PutNumbers.{replacement_at}
use Rattle.lc_term.specs.Replacement.{Replacement, replacing, replace}
use Rattle.lc_term.specs.Said.{term_at}
use Rattle.lc_term.specs.Syntax.{Term, Column}
use Rattle.lc_table.specs.NodeTables.{Table}
use Rattle.lc_table.specs.Tables.{Keeps, formula_in, formulas_in, AreFormulas, IsFormula, HasFormula}
use Rattle.lc_table.specs.declared.node.TermId.{TermId}
use Rattle.lc_table.specs.declared.node.ColExprId.{ColExprId}
use Rattle.lc_table.specs.declared.node.FormulaId.{FormulaId}
use Rattle.lc_table.proofs.Later.{formula_still, is_formula_still}
use Rattle.lc_table.proofs.Listed.{are_formulas-get, formulas_in-more}
use Rattle.lc_tie.specs.Tie as T
use Rattle.lc_tie.specs.TieView.{conjunct_of}
use Rattle.lc_tie.specs.declared.tie.Conjunct.{Conjunct}
use Rattle.lc_term.specs.View.{formula_of}
use Rattle.lc_cond.specs.Adding.{HasFormulas, HasTerms, HasColumns}
use Rattle.lc_cond.proofs.Adding.{formulas_put}

-- the formula at a place
pub formula_at_later : (old new : Table) (fs : List FormulaId) (i : ℕ) (d : FormulaId) → AreFormulas old fs → i < length fs → Keeps old new → IsFormula new (get_or fs i d)
formula_at_later old new fs i d are below kept = is_formula_still old new (get_or fs i d) (are_formulas-get old fs i d are below) kept

-- one formula more
pub told_more : (first old new : Table) (r : Replacement) (fs : List FormulaId) (i : ℕ) (d : FormulaId) (ks now : List FormulaId) (k : FormulaId) →
    i < length fs → AreFormulas first fs → Keeps first old → Keeps old new → HasFormula new k (replace r (formula_in old (get_or fs i d))) → now ≡ ks ++ k ∷ [] →
    HasFormulas old ks (map (replace r) (formulas_in first (take i fs))) → HasFormulas new now (map (replace r) (formulas_in first (take (i + 1) fs)))
told_more first old new r fs i d ks now k below are kept on at pushed so_far =
    let f = get_or fs i d in
    let still : formula_in old f ≡ formula_in first f = formula_still first old f (are_formulas-get first fs i d are below) kept in
    let one : HasFormula new k (replace r (formula_in first f)) = subst (λ g. HasFormula new k (replace r g)) still at in
    let trees : map (replace r) (formulas_in first (take (i + 1) fs)) ≡ map (replace r) (formulas_in first (take i fs)) ++ replace r (formula_in first f) ∷ [] =
    ap (map (replace r)) (formulas_in-more first fs i d below) ∙ map-append (replace r) (formulas_in first (take i fs)) (formula_in first f ∷ []) in
    subst (HasFormulas new now) (sym trees) (formulas_put old new ks now k _ _ pushed so_far on one)

-- one conjunct more
pub conjuncts_more : (cs : List Conjunct) (i : ℕ) (c : Conjunct) → i < length cs → c ≡ get_or cs i c →
    T.formulas_of (map conjunct_of (take (i + 1) cs)) ≡ T.formulas_of (map conjunct_of (take i cs)) ++ formula_of c.formula ∷ []
conjuncts_more cs i c below is =
    ap (λ l. T.formulas_of (map conjunct_of l)) (take_more cs i c below ∙ ap (λ x. take i cs ++ x ∷ []) (sym is))
    ∙ ap T.formulas_of (map-append conjunct_of (take i cs) (c ∷ [])) ∙ map-append (λ d. d.formula) (map conjunct_of (take i cs)) (conjunct_of c ∷ [])

-- what is put in by number, as columns and terms
pub put_told : (ts : Table) (ps : List (ColId × ColExprId)) (ks : List TermId) (σ : ℕ → Column) (τ : List Term) → HasColumns ts ps σ → HasTerms ts ks τ → replacement_at ts ps ks ≡ replacing σ (term_at τ)
put_told ts ps ks σ τ columns terms = ap₂ (λ (ρ : ℕ → Column) υ. replacing ρ (term_at υ)) columns.columns terms.trees
