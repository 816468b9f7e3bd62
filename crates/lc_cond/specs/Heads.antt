-- Conditions that are made together, of formulas whatever table has them.
use Rattle.std.specs.Prelude.{ℕ, List, [], ◌∷◌, ◌++◌, map, option_map}
use Rattle.lc_base.specs.declared.ids.ColId.{ColId}
use Rattle.lc_term.specs.Said.{told}
use Rattle.lc_term.specs.Syntax.{Term, Column, Formula}
use Rattle.lc_table.specs.NodeTables.{Table}
use Rattle.lc_table.specs.Tables.{HasFormula}
use Rattle.lc_table.specs.declared.node.TermId.{TermId}
use Rattle.lc_table.specs.declared.node.ColExprId.{ColExprId}
use Rattle.lc_table.specs.declared.node.FormulaId.{FormulaId}
use Rattle.lc_cond.specs.Conditions as S
use Rattle.lc_cond.specs.Conditions.{Numbered, conditions_of}
use Rattle.lc_cond.specs.ConditionView.{kind_of, passage_of, which_of}
use Rattle.lc_cond.specs.Adding.{HasFormulas, HasTerms, HasColumns, Adds}
use Rattle.lc_cond.specs.declared.condition.Condition.{Condition}
use Rattle.lc_cond.specs.declared.condition.Which.{Which}
use Rattle.lc_cond.specs.declared.making.Head.{Head}

abbrev pub place_with : Head → S.Which → S.Place
place_with h w = record { point = option_map (λ p. p.0) h.point; passage = passage_of h.passage; path = h.path; which = w }

abbrev pub head_of : Head → S.Head
head_of h = record { kind = kind_of h.kind; variables = h.variables; place = λ k. place_with h (Numbered k) }

abbrev pub condition_made : Head → S.Which → List Formula → Formula → S.Condition
condition_made h w hs g = record { kind = kind_of h.kind; place = place_with h w; variables = h.variables; hypotheses = hs; goal = g }

-- under these hypotheses this goal is one more condition
abbrev pub MakesOne : Head → Which → List FormulaId → FormulaId → List Condition → List Condition → Type 0
MakesOne h w ks k old new =
    (ts : Table) (hs : List Formula) (g : Formula) → HasFormulas ts ks hs → HasFormula ts k g → Adds old ts new (condition_made h (which_of w) hs g ∷ [])

-- under these hypotheses each of these goals is
abbrev pub MakesEach : Head → List FormulaId → List FormulaId → List Condition → List Condition → Type 0
MakesEach h ks goals old new =
    (ts : Table) (hs gs : List Formula) → HasFormulas ts ks hs → HasFormulas ts goals gs → Adds old ts new (conditions_of (head_of h) hs gs)

-- with these columns and variables each of the formulas is these
abbrev pub Tells : Table → Table → List (ColId × ColExprId) → List TermId → List FormulaId → List FormulaId → Type 0
Tells old new columns variables ks goals =
    (σ : ℕ → Column) (τ : List Term) (fs : List Formula) → HasColumns old columns σ → HasTerms old variables τ → HasFormulas old ks fs → HasFormulas new goals (map (told σ τ) fs)

-- with these columns and variables each of these formulas is one more condition
abbrev pub MakesTold : Head → Table → Table → List (ColId × ColExprId) → List TermId → List FormulaId → List FormulaId → List Condition → List Condition → Type 0
MakesTold h old new columns variables known ks before now =
    (σ : ℕ → Column) (τ : List Term) (hs fs : List Formula) → HasColumns old columns σ → HasTerms old variables τ → HasFormulas old known hs → HasFormulas old ks fs →
    Adds before new now (conditions_of (head_of h) hs (map (told σ τ) fs))

-- each of some is, and after them each of others
abbrev pub MakesBothTold : Head → Head → Table → Table → List (ColId × ColExprId) → List TermId → List FormulaId → List FormulaId → List FormulaId → List Condition → List Condition → Type 0
MakesBothTold h i old new columns variables known ks ls before now =
    (σ : ℕ → Column) (τ : List Term) (hs fs gs : List Formula) → HasColumns old columns σ → HasTerms old variables τ → HasFormulas old known hs → HasFormulas old ks fs → HasFormulas old ls gs →
    Adds before new now (conditions_of (head_of h) hs (map (told σ τ) fs) ++ conditions_of (head_of i) hs (map (told σ τ) gs))
