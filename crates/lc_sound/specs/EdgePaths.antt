-- The paths of an edge, and the instrumented steps that go by it.
use Rattle.std.specs.Prelude.{◌≡◌, ◌↔◌, ℕ, List, ℤ, pos, map, length}
use Rattle.lc_term.specs.Updates.{variable}
use Rattle.lc_term.specs.Meaning.{State, outside, column, EachHolds}
use Rattle.lc_term.specs.Lists.{IsIn}
use Rattle.lc_term.specs.Said.{told}
use Rattle.lc_object.specs.Edges.{Edge, edges}
use Rattle.lc_object.specs.Places.{operation_at}
use Rattle.lc_machine.specs.World.{In, World}
use Rattle.lc_machine.specs.Step.{Event, IsClient, Steps}
use Rattle.lc_rider.specs.Rider.{Mark}
use Rattle.lc_rider.specs.Paths.{Path, paths, path_start, edge_variables}
use Rattle.lc_rider.specs.PathLaws.{AreApart, AreMet, OnlyClients}
use Rattle.lc_outline.specs.Development.{Development, first_system, riders_at}
use Rattle.lc_outline.specs.Resolved.{IsResolved}
use Rattle.lc_cond.specs.Conditions.{at_end, reply_goals}
use Rattle.lc_sound.specs.Instrumented.{Label, Instrumented, with_columns, IsRun}

-- the paths of an edge, if there are n variables
abbrev pub edge_paths : Development → ℕ → Edge → List Path
edge_paths D n e =
    paths D.specification.operations (first_system D) 0 (operation_at D.object e.point) (edge_variables n e) (riders_at D e.point e.kind) (path_start e)

-- From the columns s and with these variables a path of an edge leads to the columns m: its facts hold, its marks are
-- lawful, and on a return the replies are as they are asked for. A return's own store comes last.
pub record IsGone (D : Development) (s : State) (variables : List ℤ) (e : Edge) (p : Path) (m : State) : Type 0 where
  pub facts : EachHolds s (variable variables) p.facts
  pub marks : AreMet s (variable variables) p.duties
  pub replies : EachHolds s (variable variables) (map (told p.columns (edge_variables (length variables) e)) (reply_goals (first_system D) e))
  pub columns : (λ c. column s (variable variables) outside (at_end (first_system D) e.next p.columns c)) ≡ m

-- the bare step of client c, which has these variables, goes by this edge to this world
pub record GoesAlong (D : Development) (w : World) (c : ℕ) (variables : List ℤ) (e : Edge) (what : Event) (mid : World) : Type 0 where
  pub edge : IsIn e (edges D.object)
  pub client : IsClient w c (In e.point variables)
  pub facts : EachHolds w.columns (variable variables) e.facts
  pub step : Steps D.object w c what mid

-- a client's second variable is its own number, and none but clients are in calls
pub record IsOrdinary (D : Development) (w : World) : Type 0 where
  pub own : (c point : ℕ) (variables : List ℤ) → IsClient w c (In point variables) → variable variables 1 ≡ pos c
  pub only : OnlyClients (first_system D) w.columns

-- in every state the facts of at most one path of an edge hold
abbrev pub EdgePathsExclude : Type 0
EdgePathsExclude = (D : Development) (e : Edge) (s : State) (variables : List ℤ) → AreApart s (variable variables) (edge_paths D (length variables) e)

-- if the bare step goes by an edge, its instrumented step leads to columns exactly if a path of the edge leads to them
abbrev pub StepsArePaths : Type 0
StepsArePaths =
    (D : Development) → IsResolved D → (w mid : World) (c : ℕ) (variables : List ℤ) (e : Edge) (what : Event) →
    IsOrdinary D w → GoesAlong D w c variables e what mid → (m : State) →
    ((marks : List Mark) × Instrumented D w c what marks (with_columns mid m))
    ↔ ((p : Path) × IsIn p (edge_paths D (length variables) e) × IsGone D w.columns variables e p m)

-- each world that an instrumented run reaches is ordinary
abbrev pub RunsAreOrdinary : Type 0
RunsAreOrdinary = (D : Development) → IsResolved D → (n : ℕ) (labels : List Label) (w : World) → IsRun D n labels w → IsOrdinary D w
