-- What conditions that are added say in later tables.
use Rattle.std.proofs.Common.{◌≡◌, ℕ, zero, suc, take, Ok, Err, Vec, List, [], ◌∷◌, ◌++◌, map, refl, sym, subst, ap, ap₂, ◌∙◌, append_assoc, append-nil, is_some}
use Rattle.std.specs.Prelude.{Result, IfOk}
use Rattle.std.specs.declared.alloc.Global.{Global}
use Rattle.std.proofs.lemmas.List.{map-append, take-map}
use Rattle.lc_base.specs.declared.ids.ColId.{ColId}
use Rattle.lc_put.specs.PutNumbers.{columns_at, AreColumns, terms_in, AreTerms}
use Rattle.lc_term.specs.Syntax.{Term, Column, Formula}
use Rattle.lc_table.specs.NodeTables.{Table}
use Rattle.lc_table.specs.Tables.{Keeps, formula_in, formulas_in, HasFormula, AreFormulas}
use Rattle.lc_table.specs.declared.node.TermId.{TermId}
use Rattle.lc_table.specs.declared.node.ColExprId.{ColExprId}
use Rattle.lc_table.specs.declared.node.FormulaId.{FormulaId}
use Rattle.lc_put.proofs.ByNumber.{are_terms_later, terms_still, are_columns_later, columns_still}
use Rattle.lc_table.proofs.Later.{are_formulas_still, formulas_still, is_formula_still, formula_still, formula_is, are_formulas_pushed, formulas_pushed}
use Rattle.lc_cond.specs.Conditions as S
use Rattle.lc_cond.specs.ConditionView.{kind_of, place_of, condition_in, IsCondition, AreConditions}
use Rattle.lc_cond.specs.Adding.{HasFormulas, HasTerms, HasColumns, Adds}
use Rattle.lc_cond.specs.declared.condition.Condition.{Condition}
use Rattle.lc_kernel.proofs.Branches.{are_append}

-- ---- formulas

pub formulas_later : (old new : Table) (ks : List FormulaId) (fs : List Formula) → HasFormulas old ks fs → Keeps old new → HasFormulas new ks fs
formulas_later old new ks fs h kept = record { are = are_formulas_still old new ks h.are kept; trees = formulas_still old new ks h.are kept ∙ h.trees }

pub formulas_joined : (ts : Table) (ks ls : List FormulaId) (fs gs : List Formula) → HasFormulas ts ks fs → HasFormulas ts ls gs → HasFormulas ts (ks ++ ls) (fs ++ gs)
formulas_joined ts ks ls fs gs a b = record {
  are = are_append ts ks ls a.are b.are;
  trees = map-append (formula_in ts) ks ls ∙ ap₂ (λ x y. x ++ y) a.trees b.trees;
}

-- some formulas, and after them others that are entered later
pub formulas_behind : (old new : Table) (ks ls now : List FormulaId) (fs gs : List Formula) → HasFormulas old ks fs → Keeps old new → HasFormulas new ls gs → now ≡ ks ++ ls → HasFormulas new now (fs ++ gs)
formulas_behind old new ks ls now fs gs a kept b joins =
    (let P : List FormulaId → Type 0 = λ l. HasFormulas new l (fs ++ gs) in
    subst P (sym joins) (formulas_joined new ks ls fs gs (formulas_later old new ks fs a kept) b))

-- some formulas that are entered later, and others after them
pub formulas_ahead : (old new : Table) (ks ls now : List FormulaId) (fs gs : List Formula) → HasFormulas old ls gs → Keeps old new → HasFormulas new ks fs → now ≡ ks ++ ls → HasFormulas new now (fs ++ gs)
formulas_ahead old new ks ls now fs gs b kept a joins =
    (let P : List FormulaId → Type 0 = λ l. HasFormulas new l (fs ++ gs) in
    subst P (sym joins) (formulas_joined new ks ls fs gs a (formulas_later old new ls gs b kept)))

pub formula_alone : (ts : Table) (k : FormulaId) (f : Formula) → HasFormula ts k f → HasFormulas ts (k ∷ []) (f ∷ [])
formula_alone ts k f h = record { are = (ap is_some h, tt); trees = ap (λ x. x ∷ []) (formula_is ts k f h) }

pub no_formulas : (ts : Table) → HasFormulas ts [] []
no_formulas ts = record { are = tt; trees = refl }

-- one formula more
pub formulas_put : (old new : Table) (ks now : List FormulaId) (k : FormulaId) (fs : List Formula) (f : Formula) → now ≡ ks ++ k ∷ [] → HasFormulas old ks fs → Keeps old new → HasFormula new k f →
    HasFormulas new now (fs ++ f ∷ [])
formulas_put old new ks now k fs f pushed h kept at =
    (let P : List FormulaId → Type 0 = λ l. HasFormulas new l (fs ++ f ∷ []) in
    subst P (sym pushed) (record {
      are = are_formulas_pushed old new ks k f h.are kept at;
      trees = formulas_pushed old new ks k f h.are kept at ∙ ap (λ l. l ++ f ∷ []) h.trees;
    }))

-- the same numbers, seen as a list
pub formulas_listed : (ts : Table) (ks now : List FormulaId) (fs : List Formula) → HasFormulas ts ks fs → now ≡ ks → HasFormulas ts now fs
formulas_listed ts ks now fs h same = (let P : List FormulaId → Type 0 = λ l. HasFormulas ts l fs in subst P (sym same) h)

-- ---- terms and columns

pub terms_later : (old new : Table) (ks : List TermId) (us : List Term) → HasTerms old ks us → Keeps old new → HasTerms new ks us
terms_later old new ks us h kept = record { are = are_terms_later old new ks h.are kept; trees = terms_still old new ks h.are kept ∙ h.trees }

pub columns_later : (old new : Table) (ps : List (ColId × ColExprId)) (σ : ℕ → Column) → HasColumns old ps σ → Keeps old new → HasColumns new ps σ
columns_later old new ps σ h kept = record { are = are_columns_later old new ps h.are kept; columns = columns_still old new ps h.are kept ∙ h.columns }

-- the columns of numbers, as they are
pub columns_are : (ts : Table) (ps : List (ColId × ColExprId)) → AreColumns ts ps → HasColumns ts ps (columns_at ts ps)
columns_are ts ps h = record { are = h; columns = refl }

-- what is entered
pub terms_entered : {E : Type 0} (r : Result (Vec TermId Global) E) (ts : Table) (us : List Term) → IfOk r (λ ks. AreTerms ts ks.items) → IfOk r (λ ks. terms_in ts ks.items ≡ us) → IfOk r (λ ks. HasTerms ts ks.items us)
terms_entered (Ok ks) ts us are trees = record { are = are; trees = trees }
terms_entered (Err e) ts us are trees = tt

-- the same numbers, seen as a list
pub terms_listed : (ts : Table) (ks now : List TermId) (us : List Term) → HasTerms ts ks us → now ≡ ks → HasTerms ts now us
terms_listed ts ks now us h same = (let P : List TermId → Type 0 = λ l. HasTerms ts l us in subst P (sym same) h)

pub columns_listed : (ts : Table) (ps now : List (ColId × ColExprId)) (σ : ℕ → Column) → HasColumns ts ps σ → now ≡ ps → HasColumns ts now σ
columns_listed ts ps now σ h same = (let P : List (ColId × ColExprId) → Type 0 = λ l. HasColumns ts l σ in subst P (sym same) h)

-- ---- conditions

pub condition_still : (old new : Table) (c : Condition) → IsCondition old c → Keeps old new → condition_in new c ≡ condition_in old c
condition_still old new c h kept =
    ap₂ (λ hs g. record { kind = kind_of c.kind; place = place_of c.place; variables = c.goal.vars; hypotheses = hs; goal = g })
    (formulas_still old new c.goal.hypotheses h.0 kept) (formula_still old new c.goal.goal h.1 kept)

pub are_later : (old new : Table) (cs : List Condition) → AreConditions old cs → Keeps old new → AreConditions new cs
are_later old new [] h kept = tt
are_later old new (c ∷ cs) h kept =
    ((are_formulas_still old new c.goal.hypotheses h.0.0 kept, is_formula_still old new c.goal.goal h.0.1 kept), are_later old new cs h.1 kept)

pub conditions_still : (old new : Table) (cs : List Condition) → AreConditions old cs → Keeps old new → map (condition_in new) cs ≡ map (condition_in old) cs
conditions_still old new [] h kept = refl
conditions_still old new (c ∷ cs) h kept = ap₂ (λ x xs. x ∷ xs) (condition_still old new c h.0 kept) (conditions_still old new cs h.1 kept)

are_both : (ts : Table) (cs ds : List Condition) → AreConditions ts cs → AreConditions ts ds → AreConditions ts (cs ++ ds)
are_both ts [] ds a b = b
are_both ts (c ∷ cs) ds a b = (a.0, are_both ts cs ds a.1 b)

pub adds_later : (before : List Condition) (old new : Table) (now : List Condition) (said : List S.Condition) → Adds before old now said → Keeps old new → Adds before new now said
adds_later before old new now said h kept = record {
  added = h.added;
  behind = h.behind;
  are = are_later old new h.added h.are kept;
  read = conditions_still old new h.added h.are kept ∙ h.read;
}

pub adds_nothing : (before : List Condition) (ts : Table) → Adds before ts before []
adds_nothing before ts = record { added = []; behind = sym (append-nil before); are = tt; read = refl }

pub adds_both : (a b c : List Condition) (ts : Table) (xs ys : List S.Condition) → Adds a ts b xs → Adds b ts c ys → Adds a ts c (xs ++ ys)
adds_both a b c ts xs ys h k = record {
  added = h.added ++ k.added;
  behind = k.behind ∙ ap (λ l. l ++ k.added) h.behind ∙ append_assoc a h.added k.added;
  are = are_both ts h.added k.added h.are k.are;
  read = map-append (condition_in ts) h.added k.added ∙ ap₂ (λ x y. x ++ y) h.read k.read;
}

-- some conditions, and others after them
pub adds_on : (a b c : List Condition) (old new : Table) (xs ys : List S.Condition) → Adds a old b xs → Keeps old new → Adds b new c ys → Adds a new c (xs ++ ys)
adds_on a b c old new xs ys h kept k = adds_both a b c new xs ys (adds_later a old new b xs h kept) k

-- all that there are
pub adds_to_none : (ts : Table) (now : List Condition) (said : List S.Condition) → Adds [] ts now said → AreConditions ts now × (map (condition_in ts) now ≡ said)
adds_to_none ts now said h =
    (let P : List Condition → Type 0 = λ cs. AreConditions ts cs × (map (condition_in ts) cs ≡ said) in
    subst P (sym h.behind) (h.are, h.read))

-- the formulas of numbers, as they are
pub formulas_are : (ts : Table) (ks : List FormulaId) → AreFormulas ts ks → HasFormulas ts ks (formulas_in ts ks)
formulas_are ts ks h = record { are = h; trees = refl }

-- the first n of them
pub first_are : (ts : Table) (ks : List FormulaId) (n : ℕ) → AreFormulas ts ks → AreFormulas ts (take n ks)
first_are ts ks zero h = tt
first_are ts [] (suc n) h = tt
first_are ts (k ∷ ks) (suc n) h = (h.0, first_are ts ks n h.1)

pub first_formulas : (ts : Table) (ks : List FormulaId) (fs : List Formula) (n : ℕ) → HasFormulas ts ks fs → HasFormulas ts (take n ks) (take n fs)
first_formulas ts ks fs n h = record { are = first_are ts ks n h.are; trees = sym (take-map (formula_in ts) n ks) ∙ ap (take n) h.trees }
