-- The steps of an object with its riders (auxiliary code; marked points that depend on a condition or lie in another client's code are those of
-- Vafeiadis, Modular fine-grained concurrency verification, thesis, Cambridge 2007), and the runs of both kinds.
use Rattle.std.specs.Prelude.{◌≡◌, ℕ, ◌+◌, ◌<◌, ◌≤◌, List, [], ◌∷◌, ℤ, map, length, replicate}
use Rattle.lc_term.specs.Updates.{stored_all, variable}
use Rattle.lc_term.specs.Meaning.{State}
use Rattle.lc_history.specs.History as H
use Rattle.lc_object.specs.declared.instr.EdgeKind.TheVariants.{Next}
use Rattle.lc_machine.specs.Runs.{BareLabel}
use Rattle.lc_machine.specs.World.{World, Idle, In}
use Rattle.lc_machine.specs.Step.{Event, Invoked, Moved, Returned, IsClient, Steps}
use Rattle.lc_object.specs.Places.{operation_at}
use Rattle.lc_rider.specs.Rider.{Mark, invocation_writes, return_writes, RideAll, IsJustified}
use Rattle.lc_outline.specs.Development.{Development, first_system, start_columns, riders_at}
pub use Rattle.lc_sound.specs.Linearizable.{event_of, bare_history}

-- ---- instrumented steps and runs

pub record Label : Type 0 where
  pub client : ℕ
  pub what : Event
  pub marks : List Mark

abbrev pub with_columns : World → State → World
with_columns w m = record { columns = m; clients = w.clients }

-- a bare step, then its riders in order
abbrev pub Instrumented : Development → World → ℕ → Event → List Mark → World → Type 0
Instrumented D w c (Invoked o numbers) marks w' =
    (mid : World) × Steps D.object w c (Invoked o numbers) mid × (marks ≡ [])
    × (w' ≡ with_columns mid (stored_all mid.columns (invocation_writes (first_system D) c o numbers)))
Instrumented D w c (Moved point edge) marks w' =
    (mid : World) × (reached : ℕ) × (variables : List ℤ) × (m : State)
    × Steps D.object w c (Moved point edge) mid × IsClient mid c (In reached variables)
    × RideAll D.specification.operations (first_system D) c (operation_at D.object point) (variable variables) mid.columns (riders_at D point edge) marks m
    × (w' ≡ with_columns mid m)
Instrumented D w c (Returned numbers) marks w' =
    (mid : World) × (point : ℕ) × (variables : List ℤ) × (m : State)
    × IsClient w c (In point variables) × Steps D.object w c (Returned numbers) mid
    × RideAll D.specification.operations (first_system D) c (operation_at D.object point) (variable variables) mid.columns (riders_at D point Next) marks m
    × IsJustified (first_system D) m c numbers
    × (w' ≡ with_columns mid (stored_all m (return_writes (first_system D) c)))

abbrev pub Runs : Development → World → List Label → World → Type 0
Runs D w [] w' = w' ≡ w
Runs D w (l ∷ ls) w' = (mid : World) × Instrumented D w l.client l.what l.marks mid × Runs D mid ls w'

-- every column as at the start, and every client in no call
abbrev pub start_world : Development → ℕ → World
start_world D clients = record { columns = start_columns D; clients = replicate clients Idle }

-- these labels lead `clients` clients from the start to this world
abbrev pub IsRun : Development → ℕ → List Label → World → Type 0
IsRun D clients labels w = Runs D (start_world D clients) labels w

-- ---- standing over

abbrev pub IsConcrete : Development → ℕ → Type 0
IsConcrete D c = (length D.specification.columns ≤ c) × (c < length D.specification.columns + length D.object.concretes)

-- an instrumented world stands over a bare one
pub record IsOver (D : Development) (w b : World) : Type 0 where
  pub clients : w.clients ≡ b.clients
  pub columns : (c : ℕ) → IsConcrete D c → w.columns c ≡ b.columns c

abbrev pub unmarked : Label → BareLabel
unmarked l = record { client = l.client; what = l.what }

-- ---- history and order

abbrev pub history : List Label → List H.Event
history ls = bare_history (map unmarked ls)
