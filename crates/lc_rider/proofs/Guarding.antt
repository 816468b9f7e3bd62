-- Guards of branches, one after another, by number.
use Rattle.std.proofs.Common.{◌≡◌, ℕ, ◌+◌, ◌<◌, List, [], ◌∷◌, ◌++◌, length, map, take, get_or, sym, subst, ap, ◌∙◌}
use Rattle.std.proofs.lemmas.List.{map_more, map-append}
use Rattle.lc_table.specs.NodeTables.{Table}
use Rattle.lc_put.specs.PutNumbers.{terms_in, AreTerms}
use Rattle.lc_term.specs.Said.{told}
use Rattle.lc_term.specs.Syntax.{Formula}
use Rattle.lc_table.specs.Tables.{formulas_in, AreFormulas, HasFormula, Keeps}
use Rattle.lc_table.specs.declared.node.FormulaId.{FormulaId}
use Rattle.lc_table.specs.declared.node.TermId.{TermId}
use Rattle.lc_put.proofs.ByNumber.{terms_still}
use Rattle.lc_table.proofs.Later.{formulas_pushed, are_formulas_pushed}
use Rattle.lc_seq.specs.Specification as Q
use Rattle.lc_seq.specs.SpecView.{branch_of}
use Rattle.lc_seq.specs.declared.specification.Branch.{Branch}
use Rattle.std.specs.Borrow.{Bor}
use Rattle.lc_rider.specs.MarkView.{branches_at}
use Rattle.lc_rider.specs.PathView.{path_in, IsPath}
use Rattle.lc_rider.specs.declared.path.Path.{Path}
use Rattle.lc_rider.proofs.PathLater.{path_still}

-- the guards of these branches, said of the state before
abbrev pub guards_in : Table → Path → List TermId → List Q.Branch → List Formula
guards_in ts p vs bs = map (λ (b : Q.Branch). told (path_in ts p).columns (terms_in ts vs) b.guard) bs

-- said by a path and variables in a later table
pub told_still : (old now new : Table) (p : Path) (vs : List TermId) (k : FormulaId) (g : Formula) → IsPath old p → AreTerms old vs → Keeps old now →
    HasFormula new k (told (path_in now p).columns (terms_in now vs) g) → HasFormula new k (told (path_in old p).columns (terms_in old vs) g)
told_still old now new p vs k g is are kept at = subst (HasFormula new k) (λ i. told (path_still old now p is kept i).columns (terms_still old now vs are kept i) g) at

-- one guard more
pub guards_more : (old now new : Table) (p : Path) (vs : List TermId) (bs : List (Bor Branch)) (i : ℕ) (b : Bor Branch) (ks more : List FormulaId) (k : FormulaId) → i < length bs → b ≡ get_or bs i b →
    more ≡ ks ++ k ∷ [] → AreFormulas now ks → Keeps now new → HasFormula new k (told (path_in old p).columns (terms_in old vs) (branch_of b.now).guard) →
    formulas_in now ks ≡ guards_in old p vs (branches_at (take i bs)) → formulas_in new more ≡ guards_in old p vs (branches_at (take (i + 1) bs))
guards_more old now new p vs bs i b ks more k h is e are kept at so =
    let said : Q.Branch → Formula = λ (x : Q.Branch). told (path_in old p).columns (terms_in old vs) x.guard in
    ap (formulas_in new) e ∙ formulas_pushed now new ks k (said (branch_of b.now)) are kept at
    ∙ ap (λ (fs : List Formula). fs ++ said (branch_of b.now) ∷ []) so
    ∙ sym (map-append said (branches_at (take i bs)) (branch_of b.now ∷ []))
    ∙ ap (map said) (ap (λ (x : Bor Branch). branches_at (take i bs) ++ branch_of x.now ∷ []) is ∙ sym (map_more (λ (x : Bor Branch). branch_of x.now) bs i b h))

pub are_guards : (now new : Table) (ks more : List FormulaId) (k : FormulaId) (g : Formula) → more ≡ ks ++ k ∷ [] → AreFormulas now ks → Keeps now new → HasFormula new k g → AreFormulas new more
are_guards now new ks more k g e are kept at = subst (AreFormulas new) (sym e) (are_formulas_pushed now new ks k g are kept at)
