-- What a step leaves in the columns.
use Rattle.std.specs.Prelude.{◌≡◌, ℕ, List, ℤ, length}
use Rattle.lc_term.specs.Lists.{IsIn}
use Rattle.lc_term.specs.Meaning.{State, outside, column}
use Rattle.lc_term.specs.Updates.{variable}
use Rattle.lc_object.specs.Edges.{Edge}
use Rattle.lc_machine.specs.Step.{Event}
use Rattle.lc_machine.specs.World.{World}
use Rattle.lc_rider.specs.Paths.{Path}
use Rattle.lc_rider.specs.Rider.{Mark}
use Rattle.lc_outline.specs.Development.{Development, first_system}
use Rattle.lc_outline.specs.Resolved.{IsResolved}
use Rattle.lc_cond.specs.Conditions.{at_end}
use Rattle.lc_sound.specs.EdgePaths.{edge_paths, GoesAlong, IsOrdinary}
use Rattle.lc_sound.specs.Instrumented.{Instrumented, with_columns}

-- the columns m are those after a path from the columns s; a return's own store comes last
abbrev pub LeavesColumns : Development → (s : State) → List ℤ → Edge → Path → (m : State) → Type 0
LeavesColumns D s variables e p m = (λ c. column s (variable variables) outside (at_end (first_system D) e.next p.columns c)) ≡ m

-- if a bare step goes by an edge, the instrumented step over it leaves the columns after a path of the edge
abbrev pub StepsLeaveColumns : Type 0
StepsLeaveColumns =
    (D : Development) → IsResolved D → (w mid : World) (c : ℕ) (variables : List ℤ) (e : Edge) (what : Event) →
    IsOrdinary D w → GoesAlong D w c variables e what mid → (m : State) (marks : List Mark) → Instrumented D w c what marks (with_columns mid m) →
    (p : Path) × IsIn p (edge_paths D (length variables) e) × LeavesColumns D w.columns variables e p m
