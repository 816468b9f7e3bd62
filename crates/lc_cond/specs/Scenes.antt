-- What the conditions of an edge share, and what it says in a table.
use Rattle.std.specs.Prelude.{◌≡◌, ℕ, List, [], ◌∷◌, ◌++◌, map, Option, Some, None, option_map, slice_get}
use Rattle.lc_term.specs.Syntax.{Term, Variable, Column, Formula}
use Rattle.lc_term.specs.Said.{told}
use Rattle.lc_table.specs.NodeTables.{Table}
use Rattle.lc_put.specs.PutNumbers.{AreColumns}
use Rattle.lc_table.specs.Tables.{formulas_in, AreFormulas, HasFormula}
use Rattle.lc_table.specs.declared.node.FormulaId.{FormulaId}
use Rattle.lc_object.specs.Syntax.{Operation}
use Rattle.lc_object.specs.WellFormed.{variable_count}
use Rattle.lc_object.specs.Edges.{Edge}
use Rattle.lc_object.specs.EdgeView.{edge_of}
use Rattle.lc_action.specs.Action.{Action, guard_for, post_columns}
use Rattle.lc_action.specs.ActionView.{first_of}
use Rattle.lc_rider.specs.Paths.{edge_variables, Duty, Path}
use Rattle.lc_rider.specs.PathView.{path_in, IsPath, HasPath}
use Rattle.lc_rider.specs.declared.duty.Duty as M
use Rattle.lc_rider.specs.declared.path.Path as P
use Rattle.lc_outline.specs.Development as D
use Rattle.lc_outline.specs.Development.{first_system, invariant_of, on_at, asserts_to}
use Rattle.lc_outline.specs.DevelopmentView.{development_view, on_of}
use Rattle.lc_cond.specs.Conditions as S
use Rattle.lc_cond.specs.Conditions.{reply_goals, body_hypotheses, conditions_of, alone_on_path, on_path, duty_condition, on_conditions, path_conditions, at_end}
use Rattle.lc_cond.specs.Adding.{HasFormulas, HasTerms, HasColumns, Adds, Under, Over}
use Rattle.lc_cond.specs.declared.condition.Condition as C
use Rattle.lc_cond.specs.declared.condition.Kind.TheVariants as K
use Rattle.lc_cond.specs.declared.condition.Passage.TheVariants as G
use Rattle.lc_cond.specs.declared.edge_conditions.Outcome.{Outcome}
use Rattle.lc_cond.specs.declared.making.Head.{Head}
use Rattle.lc_cond.specs.declared.matching.Acting.{Acting}
use Rattle.lc_cond.specs.declared.scene.Scene.{Scene}

abbrev pub development_in : Scene → D.Development
development_in s = development_view s.development.now

abbrev pub code_in : Scene → Edge
code_in s = edge_of s.code.now

abbrev pub on_in : Scene → Option D.On
on_in s = option_map (λ o. on_of o.now) s.on

-- the number of the only one of these formulas, if there is one
abbrev pub IsReply : Table → Option FormulaId → List Formula → Type 0
IsReply ts None fs = fs ≡ []
IsReply ts (Some k) fs = (f : Formula) × HasFormula ts k f × (fs ≡ f ∷ [])

-- the action that is beside an edge, with its arguments
abbrev pub acting_on : D.Development → Option D.On → Option (List Term × Action)
acting_on D None = None
acting_on D (Some x) = option_map (λ a. (x.arguments, a)) (slice_get D.actions x.action)

-- its guard and its columns, for client 1
abbrev pub IsActing : Table → Option Acting → Option (List Term × Action) → Type 0
IsActing ts None o = o ≡ None
IsActing ts (Some k) o =
    (x : List Term × Action) × (o ≡ Some x) × HasFormula ts k.guard (guard_for x.1 (Variable 1) x.0) × HasColumns ts k.columns.items (post_columns x.1 (Variable 1) x.0)

pub record IsScene (ts : Table) (s : Scene) : Type 0 where
  pub system : first_of s.system ≡ first_system (development_in s)
  pub variables : HasTerms ts s.variables.items (edge_variables s.count (code_in s))
  pub hypotheses : AreFormulas ts s.hypotheses.items
  pub invariant : HasFormulas ts s.invariant.items (invariant_of (development_in s))
  pub next : HasFormulas ts s.next.items (asserts_to (development_in s) (code_in s).next)
  pub reply : IsReply ts s.reply (reply_goals (first_system (development_in s)) (code_in s))
  pub acting : IsActing ts s.acting (acting_on (development_in s) (on_in s))

-- the scene of an edge in the body of this operation
pub record IsSceneOf (ts : Table) (d : D.Development) (o : ℕ) (operation : Operation) (e : Edge) (s : Scene) : Type 0 where
  pub development : development_in s ≡ d
  pub code : code_in s ≡ e
  pub on : on_in s ≡ on_at d e.point e.kind
  pub count : s.count ≡ variable_count operation
  pub known : formulas_in ts s.hypotheses.items ≡ body_hypotheses d o operation e.point ++ e.facts
  pub stands : IsScene ts s

-- ---- the conditions of a path, part by part

abbrev pub told_in : Scene → (ℕ → Column) → Formula → Formula
told_in s σ f = told σ (edge_variables s.count (code_in s)) f

abbrev pub duty_conditions : Scene → ℕ → List Formula → List Duty → List S.Condition
duty_conditions s j hs ds = map (duty_condition (code_in s) s.count j hs) ds

abbrev pub reply_conditions : Scene → ℕ → List Formula → (ℕ → Column) → List S.Condition
reply_conditions s j hs σ = conditions_of (alone_on_path S.Reply (code_in s) s.count j) hs (map (told_in s σ) (reply_goals (first_system (development_in s)) (code_in s)))

abbrev pub next_conditions : Scene → ℕ → List Formula → (ℕ → Column) → List S.Condition
next_conditions s j hs σ =
    conditions_of (on_path S.Invariant (code_in s) s.count j) hs (map (told_in s σ) (invariant_of (development_in s)))
    ++ conditions_of (on_path S.NextKind (code_in s) s.count j) hs (map (told_in s σ) (asserts_to (development_in s) (code_in s).next))

abbrev pub on_conditions_in : Scene → ℕ → List Formula → (ℕ → Column) → List S.Condition
on_conditions_in s j hs σ = on_conditions (development_in s) (code_in s) s.count j hs σ (on_in s)

-- besides what the marks of the path ask for
abbrev pub outcome_conditions : Scene → ℕ → List Formula → Path → List S.Condition
outcome_conditions s j hs p =
    (let σ = at_end (first_system (development_in s)) (code_in s).next p.columns in
    reply_conditions s j hs p.columns ++ (next_conditions s j hs σ ++ on_conditions_in s j hs σ))

abbrev pub path_conditions_in : Scene → ℕ → List Formula → Path → List S.Condition
path_conditions_in s j hs p = path_conditions (development_in s) (code_in s) s.count (on_in s) hs j p

-- the table has what the conditions after a path are made of
pub record IsOutcome (ts : Table) (o : Outcome) : Type 0 where
  pub scene : IsScene ts o.scene.now
  pub columns : AreColumns ts o.columns.now

-- what holds of what is known after a path, and of the columns there
abbrev pub Behind : Table → Outcome → (List Formula → (ℕ → Column) → Type 0) → Type 0
Behind ts o P = Under ts o.known.now (λ hs. Over ts o.columns.now (λ σ. P hs σ))

-- these are the facts of a path of the code, and these are known on it
pub record IsKnownOn (s : Scene) (path : P.Path) (facts known : List FormulaId) : Type 0 where
  pub trees : (ts : Table) → formulas_in ts facts ≡ (path_in ts path).facts
  pub are : (ts : Table) → IsPath ts path → AreFormulas ts facts
  pub all : known ≡ s.hypotheses.items ++ facts

-- what holds of what a path of the code stands for
abbrev pub Along : Table → P.Path → (Path → Type 0) → Type 0
Along ts path P = (p : Path) → HasPath ts path p → P p

-- what the condition of a duty shares with others
abbrev pub duty_head : Scene → ℕ → M.Duty → Head
duty_head s j d = record { kind = K.Owed d.kind; variables = s.count; point = Some s.code.now.point; passage = G.Edge s.code.now.kind; path = Some j }

-- what the marks of this path of the code ask for is added
abbrev pub MakesDuties : Scene → ℕ → P.Path → List C.Condition → List C.Condition → Type 0
MakesDuties s j path before now =
    (ts : Table) (hs : List Formula) (p : Path) → HasFormulas ts s.hypotheses.items hs → HasPath ts path p → Adds before ts now (duty_conditions s j hs p.duties)
