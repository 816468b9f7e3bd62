-- Actions of other clients where something is known of a client.
use Rattle.std.specs.Prelude.{◌≡◌, ℕ, suc, ◌+◌, ◌≤◌, List, [], ◌∷◌, ◌++◌, map, length, slice_get, Option, Some, option_map}
use Rattle.lc_base.specs.Limits.{argument_limit, local_limit}
use Rattle.lc_base.specs.declared.ids.PointId.{PointId}
use Rattle.lc_term.specs.Lists.{Every, numbered, concat_places}
use Rattle.lc_term.specs.Said.{variables_from}
use Rattle.lc_table.specs.NodeTables.{Table}
use Rattle.lc_term.specs.Syntax.{Term, Variable, Formula, Eq, Not}
use Rattle.lc_table.specs.Tables.{AreFormulas, formulas_in}
use Rattle.lc_table.specs.declared.node.FormulaId.{FormulaId}
use Rattle.lc_action.specs.Action.{Action}
use Rattle.lc_outline.specs.Development.{Development, invariant_of}
use Rattle.lc_outline.specs.Resolved.{IsBelow}
use Rattle.lc_cond.specs.Adding.{HasFormulas, HasTerms, Adds}
use Rattle.lc_cond.specs.Conditions.{range, stable_hypotheses, stable_goal, stable_under}
use Rattle.lc_cond.specs.declared.condition.Condition.{Condition}
use Rattle.lc_cond.specs.declared.stability.Crossing.{Crossing}
use Rattle.lc_cond.specs.declared.stability.Given.{Given}

-- the most variables that the code of an operation has: the number of clients, the client, arguments and locals
abbrev pub code_variable_limit : ℕ
code_variable_limit = 2 + argument_limit + local_limit

-- all of them, as terms
abbrev pub code_variables : List Term
code_variables = variables_from 0 code_variable_limit

-- no action has more parameters than `enter`: the operation and its arguments
abbrev pub TakesFew : Action → Type 0
TakesFew a = length a.parameters ≤ 1 + argument_limit

-- clients 1 and u, whose variable is the n-th, and they differ
abbrev pub two_clients : ℕ → List Formula
two_clients n = range (Variable 1) ++ (range (Variable n) ++ (Not (Eq (Variable 1) (Variable n)) ∷ []))

-- what the table has for all actions of u
pub record IsGiven (ts : Table) (D : Development) (g : Given) : Type 0 where
  pub few : g.client ≤ code_variable_limit
  pub variables : HasTerms ts g.variables.now code_variables
  pub clients : HasFormulas ts g.clients.now (two_clients g.client)
  pub known : AreFormulas ts g.known.now
  pub invariant : HasFormulas ts g.invariant.now (invariant_of D)
  pub asserts : AreFormulas ts g.asserts.now
  pub below : Every (IsBelow code_variable_limit) (formulas_in ts g.asserts.now)

-- client u, whose variable is the n-th, does this action, where hs is known of the other client and these are asserted
pub record IsCrossing (ts : Table) (D : Development) (n : ℕ) (hs asserts : List Formula) (a : Action) (c : Crossing) : Type 0 where
  pub variables : c.variables ≡ suc n + length a.parameters
  pub hypotheses : HasFormulas ts c.hypotheses (stable_hypotheses D n hs a)
  pub goals : HasFormulas ts c.goals.items (map (λ f. stable_goal n f a) asserts)

abbrev pub AreCrossings : Table → Development → ℕ → List Formula → List Formula → List Action → List Crossing → Type 0
AreCrossings ts D n hs asserts [] [] = Unit {0}
AreCrossings ts D n hs asserts [] (c ∷ cs) = ⊥
AreCrossings ts D n hs asserts (a ∷ as') [] = ⊥
AreCrossings ts D n hs asserts (a ∷ as') (c ∷ cs) = IsCrossing ts D n hs asserts a c × AreCrossings ts D n hs asserts as' cs

-- whatever the table says of what is known and asserted: the action, the actions do so
abbrev pub Crosses : Table → Table → Development → ℕ → List FormulaId → List FormulaId → Action → Crossing → Type 0
Crosses old new D n known asserts a c = (hs fs : List Formula) → HasFormulas old known hs → HasFormulas old asserts fs → IsCrossing new D n hs fs a c

abbrev pub AllCross : Table → Table → Development → ℕ → List FormulaId → List FormulaId → List Action → List Crossing → Type 0
AllCross old new D n known asserts actions cs = (hs fs : List Formula) → HasFormulas old known hs → HasFormulas old asserts fs → AreCrossings new D n hs fs actions cs

-- one more action
abbrev pub CrossesToo : Table → Table → Development → ℕ → List FormulaId → List FormulaId → Action → List Crossing → List Crossing → Type 0
CrossesToo old new D n known asserts a before now =
    (hs fs : List Formula) (actions : List Action) → HasFormulas old known hs → HasFormulas old asserts fs → AreCrossings old D n hs fs actions before → AreCrossings new D n hs fs (actions ++ a ∷ []) now

-- each action in turn gives a condition of the k-th conjunct, whose goals are the j-th
abbrev pub MakesStable : Option PointId → ℕ → ℕ → List Crossing → List Condition → List Condition → Type 0
MakesStable point k j crossings old new =
    (ts : Table) (D : Development) (n : ℕ) (hs asserts : List Formula) (actions : List Action) (f : Formula) → AreCrossings ts D n hs asserts actions crossings → slice_get asserts j ≡ Some f →
    Adds old ts new (numbered (stable_under D (option_map (λ p. p.0) point) n hs k f) 0 actions)

-- each of `count` conjuncts does, with the goals for it, from the k-th on
abbrev pub MakesAllStable : Option PointId → ℕ → ℕ → List Crossing → List Condition → List Condition → Type 0
MakesAllStable point k count crossings old new =
    (ts : Table) (D : Development) (n : ℕ) (hs asserts : List Formula) (actions : List Action) → AreCrossings ts D n hs asserts actions crossings → length asserts ≡ count →
    Adds old ts new (concat_places (λ j f. numbered (stable_under D (option_map (λ p. p.0) point) n hs j f) 0 actions) k asserts)

-- each crossing has `count` goals
abbrev pub HaveGoals : ℕ → List Crossing → Type 0
HaveGoals count [] = Unit {0}
HaveGoals count (c ∷ cs) = (length c.goals.items ≡ count) × HaveGoals count cs
