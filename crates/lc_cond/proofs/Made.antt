-- One more condition of those that are made together.
use Rattle.std.proofs.Common.{◌≡◌, ℕ, suc, ◌+◌, ◌<◌, List, [], ◌∷◌, ◌++◌, map, take, length, sym, subst, ap, ◌∙◌, arith, get_or, add-zero, zero-add}
use Rattle.std.proofs.lemmas.List.{map-append, take_more, length-map, length-take-le}
use Rattle.lc_term.specs.Syntax.{Formula}
use Rattle.lc_term.specs.Lists.{numbered}
use Rattle.lc_table.specs.NodeTables.{Table}
use Rattle.lc_table.specs.Tables.{formula_in, formulas_in, AreFormulas, IsFormula}
use Rattle.lc_table.specs.declared.node.FormulaId.{FormulaId}
use Rattle.lc_table.proofs.Later.{formula_has}
use Rattle.lc_cond.specs.Conditions as S
use Rattle.lc_cond.specs.Conditions.{conditions_of}
use Rattle.lc_cond.specs.Adding.{HasFormulas, Adds}
use Rattle.lc_cond.specs.Heads.{head_of, condition_made, MakesOne, MakesEach}
use Rattle.lc_cond.specs.declared.condition.Condition.{Condition}
use Rattle.lc_cond.specs.declared.condition.Which.TheVariants.{Numbered}
use Rattle.lc_cond.specs.declared.making.Head.{Head}
use Rattle.lc_cond.proofs.Adding.{adds_both}

pub numbered-snoc : {A B : Type 0} (f : ℕ → A → B) (k : ℕ) (xs : List A) (y : A) → numbered f k (xs ++ y ∷ []) ≡ numbered f k xs ++ f (k + length xs) y ∷ []
numbered-snoc f k [] y = ap (λ n. f n y ∷ []) (sym (add-zero k))
numbered-snoc f k (x ∷ xs) y =
    let e : suc k + length xs ≡ k + length (x ∷ xs) = omega arith in
    ap (λ l. f k x ∷ l) (numbered-snoc f (suc k) xs y ∙ ap (λ n. numbered f (suc k) xs ++ f n y ∷ []) e)

front_are : (ts : Table) (ks : List FormulaId) (k : FormulaId) → AreFormulas ts (ks ++ k ∷ []) → AreFormulas ts ks
front_are ts [] k h = tt
front_are ts (x ∷ ks) k h = (h.0, front_are ts ks k h.1)

last_is : (ts : Table) (ks : List FormulaId) (k : FormulaId) → AreFormulas ts (ks ++ k ∷ []) → IsFormula ts k
last_is ts [] k h = h.0
last_is ts (x ∷ ks) k h = last_is ts ks k h.1

-- each of the goals so far
abbrev pub MadeBelow : Head → List FormulaId → List FormulaId → List Condition → List Condition → Type 0
MadeBelow h ks goals old now =
    (ts : Table) (hs : List Formula) → HasFormulas ts ks hs → AreFormulas ts goals → Adds old ts now (conditions_of (head_of h) hs (formulas_in ts goals))

pub made_more : (h : Head) (ks goals : List FormulaId) (i : ℕ) (d : FormulaId) (old now new : List Condition) → i < length goals →
    MadeBelow h ks (take i goals) old now → MakesOne h (Numbered i) ks (get_or goals i d) now new → MadeBelow h ks (take (i + 1) goals) old new
made_more h ks goals i d old now new below so_far one ts hs has are =
    let g = get_or goals i d in
    let split : take (i + 1) goals ≡ take i goals ++ g ∷ [] = take_more goals i d below in
    let both : AreFormulas ts (take i goals ++ g ∷ []) = subst (AreFormulas ts) split are in
    let front = so_far ts hs has (front_are ts (take i goals) g both) in
    let last = one ts hs (formula_in ts g) has (formula_has ts g (last_is ts (take i goals) g both)) in
    let places : length (map (formula_in ts) (take i goals)) ≡ i = length-map (take i goals) (formula_in ts) ∙ length-take-le i goals (omega arith) in
    let says : conditions_of (head_of h) hs (formulas_in ts (take (i + 1) goals)) ≡ conditions_of (head_of h) hs (formulas_in ts (take i goals)) ++ condition_made h (S.Numbered i) hs (formula_in ts g) ∷ [] =
    ap (λ l. conditions_of (head_of h) hs (formulas_in ts l)) split ∙ ap (λ l. conditions_of (head_of h) hs l) (map-append (formula_in ts) (take i goals) (g ∷ []))
    ∙ numbered-snoc (λ j f. condition_made h (S.Numbered j) hs f) 0 (formulas_in ts (take i goals)) (formula_in ts g)
    ∙ ap (λ n. conditions_of (head_of h) hs (formulas_in ts (take i goals)) ++ condition_made h (S.Numbered n) hs (formula_in ts g) ∷ []) (zero-add (length (formulas_in ts (take i goals))) ∙ places) in
    subst (Adds old ts new) (sym says) (adds_both old now new ts _ _ front last)

pub made_all : (h : Head) (ks goals : List FormulaId) (old now : List Condition) → MadeBelow h ks goals old now → MakesEach h ks goals old now
made_all h ks goals old now below ts hs gs has are = subst (λ fs. Adds old ts now (conditions_of (head_of h) hs fs)) are.trees (below ts hs has are.are)
