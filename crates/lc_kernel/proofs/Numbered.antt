-- Hypotheses and parts of formulas by number, and their trees.
use Rattle.std.proofs.Common.{◌≡◌, ℕ, zero, suc, ◌+◌, ◌<◌, ℤ, pos, List, [], ◌∷◌, ◌++◌, length, take, get_or, slice_get, Some, None, refl, sym, ap, ◌∙◌, subst, arith}
use Rattle.std.specs.Prelude.{negsuc, Bool, true, false, IsTrue, ◌↔◌, Result, Ok, Err, Vec}
use Rattle.std.specs.Bool.{Decides}
use Rattle.std.specs.declared.alloc.Global.{Global}
use Rattle.std.proofs.lemmas.Bool.{false≢true}
use Rattle.std.proofs.lemmas.List.{map-append, map_more}
use Rattle.lc_table.specs.NodeTables.{Table}
use Rattle.lc_table.specs.Nodes.{tree_of, TreeFits}
use Rattle.lc_term.specs.Syntax as S
use Rattle.lc_table.specs.Tables.{parts, formulas, formula_in, formulas_in, IsFormula, AreFormulas, HasFormula, Keeps}
use Rattle.lc_table.specs.declared.node.FormulaId.{FormulaId}
use Rattle.lc_table.specs.declared.node.FormulaNode.{FormulaNode}
use Rattle.lc_table.specs.declared.node.FormulaNode.TheVariants.{And, Or}
use Rattle.lc_table.proofs.Later.{are_formulas_pushed, formulas_pushed}
use Rattle.lc_kernel.specs.Answers.{FindsNumber, FindsIn, hypothesis_of}
use Rattle.lc_kernel.specs.Table.{hypothesis, conjuncts, failing, alternatives, negations, pushed_inward}
use Rattle.lc_kernel.specs.declared.reason.Flaw.{Flaw}
use Rattle.lc_kernel.specs.declared.reason.Reason.TheVariants.{NoHypothesis}
use Rattle.lc_kernel.proofs.Views.{parts_formulas}

at-place : (ts : Table) (ks : List FormulaId) (n : ℕ) (k : FormulaId) → AreFormulas ts ks → slice_get ks n ≡ Some k → IsFormula ts k × (slice_get (formulas_in ts ks) n ≡ Some (formula_in ts k))
at-place ts [] n k are h = cc
at-place ts (x ∷ xs) zero k are h = let e : x ≡ k = cc in (let a = are.0 in rw (← e) a, ap (λ y. Some (formula_in ts y)) e)
at-place ts (x ∷ xs) (suc n) k are h = at-place ts xs n k are.1 h

no-place : (ts : Table) (ks : List FormulaId) (n : ℕ) → slice_get ks n ≡ None → slice_get (formulas_in ts ks) n ≡ None
no-place ts [] n h = refl
no-place ts (x ∷ xs) zero h = cc
no-place ts (x ∷ xs) (suc n) h = no-place ts xs n h

pub number_found : (ts : Table) (ks : List FormulaId) (h : ℤ) (k : FormulaId) → AreFormulas ts ks → hypothesis_of ks h ≡ Some k
    → IsFormula ts k × (hypothesis (formulas_in ts ks) h ≡ Some (formula_in ts k))
number_found ts ks (pos n) k are e = at-place ts ks n k are e
number_found ts ks (negsuc n) k are e = cc

pub number_missed : (ts : Table) (ks : List FormulaId) (h : ℤ) → hypothesis_of ks h ≡ None → hypothesis (formulas_in ts ks) h ≡ None
number_missed ts ks (pos n) e = no-place ts ks n e
number_missed ts ks (negsuc n) e = refl

pub found_in : (ts : Table) (ks : List FormulaId) (h : ℤ) (r : Result FormulaId Flaw) → AreFormulas ts ks → FindsNumber ks h r → FindsIn ts (hypothesis (formulas_in ts ks) h) NoHypothesis r
found_in ts ks h (Ok k) are e = number_found ts ks h k are e
found_in ts ks h (Err why) are e = (number_missed ts ks h e.0, e.1)

-- the parts of a conjunction, of a disjunction
pub and_opened : (ts : Table) (k : FormulaId) (n : FormulaNode) (ps : Vec FormulaId Global) (ks : List FormulaId) → formula_in ts k ≡ tree_of (parts ts) (formulas ts) n → TreeFits (parts ts) (formulas ts) n
    → n ≡ And ps → ks ≡ ps.items → AreFormulas ts ks × (conjuncts (formula_in ts k) ≡ Some (formulas_in ts ks))
and_opened ts k n ps ks tree fits is same =
    let fits' : AreFormulas ts ps.items = subst (TreeFits (parts ts) (formulas ts)) is fits in (
      subst (AreFormulas ts) (sym same) fits',
      ap conjuncts (tree ∙ ap (tree_of (parts ts) (formulas ts)) is) ∙ ap Some (parts_formulas (formulas_in ts ps.items) ∙ ap (formulas_in ts) (sym same)),
    )

pub or_opened : (ts : Table) (k : FormulaId) (n : FormulaNode) (ps : Vec FormulaId Global) (ks : List FormulaId) → formula_in ts k ≡ tree_of (parts ts) (formulas ts) n → TreeFits (parts ts) (formulas ts) n
    → n ≡ Or ps → ks ≡ ps.items →
    AreFormulas ts ks × (alternatives (formula_in ts k) ≡ Some (formulas_in ts ks)) × (pushed_inward (formula_in ts k) ≡ Some (S.And (S.formulas (negations (formulas_in ts ks)))))
or_opened ts k n ps ks tree fits is same =
    let fits' : AreFormulas ts ps.items = subst (TreeFits (parts ts) (formulas ts)) is fits in
    let all = tree ∙ ap (tree_of (parts ts) (formulas ts)) is in
    let listed = parts_formulas (formulas_in ts ps.items) ∙ ap (formulas_in ts) (sym same) in (
      subst (AreFormulas ts) (sym same) fits',
      ap alternatives all ∙ ap Some listed,
      ap pushed_inward all ∙ ap (λ fs. Some (S.And (S.formulas (negations fs)))) listed,
    )

-- what fails if a formula does is each negated conjunct
pub failing_by : (f : S.Formula) (fs : List S.Formula) → conjuncts f ≡ Some fs → failing f ≡ Some (negations fs)
failing_by (S.And gs) fs is = let same : S.parts gs ≡ fs = cc in ap (λ hs. Some (negations hs)) same
failing_by _ fs is = cc

pub failing_none : (f : S.Formula) → conjuncts f ≡ None → failing f ≡ None
failing_none (S.And gs) is = cc
failing_none _ is = refl

pub bool_same : {P : Type 0} (a b : Bool) → (IsTrue a ↔ P) → Decides b P → a ≡ b
bool_same true true h d = refl
bool_same false false h d = refl
bool_same true false h d = absurd (false≢true (d.1 (h.0 refl)))
bool_same false true h d = absurd (false≢true (h.1 (d.0 refl)))

-- each of a list is a formula
pub formula_there : (ts : Table) (ks : List FormulaId) (i : ℕ) (k : FormulaId) → AreFormulas ts ks → i < length ks → k ≡ get_or ks i k → IsFormula ts k
formula_there ts [] i k are h is = absurd (omega arith)
formula_there ts (x ∷ ks) zero k are h is = subst (IsFormula ts) (sym is) are.0
formula_there ts (x ∷ ks) (suc i) k are h is = formula_there ts ks i k are.1 (omega arith) is

-- one more formula negated
pub negations_more : (ts : Table) (ks : List FormulaId) (i : ℕ) (k : FormulaId) → i < length ks → k ≡ get_or ks i k →
    negations (formulas_in ts (take (i + 1) ks)) ≡ negations (formulas_in ts (take i ks)) ++ S.Not (formula_in ts k) ∷ []
negations_more ts ks i k h is =
    ap negations (map_more (formula_in ts) ks i k h) ∙ map-append S.Not (formulas_in ts (take i ks)) (formula_in ts (get_or ks i k) ∷ []) ∙
    ap (λ x. negations (formulas_in ts (take i ks)) ++ S.Not (formula_in ts x) ∷ []) (sym is)

-- one formula more after the given ones
pub given_and_one : (old new : Table) (given xs ks : List FormulaId) (k : FormulaId) (f : S.Formula) → xs ≡ given → ks ≡ k ∷ [] → AreFormulas old given → Keeps old new → HasFormula new k f →
    AreFormulas new (xs ++ ks) × (formulas_in new (xs ++ ks) ≡ formulas_in old given ++ f ∷ [])
given_and_one old new given xs ks k f same one are kept at =
    let numbers : xs ++ ks ≡ given ++ k ∷ [] = ap (λ l. l ++ ks) same ∙ ap (λ l. given ++ l) one in (
      subst (AreFormulas new) (sym numbers) (are_formulas_pushed old new given k f are kept at),
      ap (formulas_in new) numbers ∙ formulas_pushed old new given k f are kept at,
    )
