-- What is seen of a step whose action does not allow it.
use Rattle.std.specs.Prelude.{◌≡◌, ◌⊎◌, ℕ, ◌<◌, ℤ, List, ◌++◌, Option, Some, None, length, slice_get}
use Rattle.lc_term.specs.Lists.{Every}
use Rattle.lc_term.specs.Meaning.{State}
use Rattle.lc_term.specs.SystemColumns.{column_count}
use Rattle.lc_term.specs.Updates.{Update, stored_all, writes_of, variable}
use Rattle.lc_action.specs.Action.{Action}
use Rattle.lc_machine.specs.Step.{Event, Invoked, Moved, Returned, IsClient}
use Rattle.lc_machine.specs.World.{World, In}
use Rattle.lc_outline.specs.Development.{Development, first_system, all_actions, on_at}
use Rattle.lc_sound.specs.Claims.{own, IsAction}
use Rattle.lc_watch.specs.Watched.{Fails}
use Rattle.lc_acting.specs.Acting.{IsEvaluated, IsActing}

-- the column of an update is there, and its terms are evaluated
abbrev pub IsUpdate : ℕ → State → List ℤ → Update → Type 0
IsUpdate columns m vs u = (u.column < columns) × IsEvaluated columns m vs u.index × IsEvaluated columns m vs u.value

-- an action with these numbers of its variables is seen not to lead from columns m to others: its guard is seen not to hold, or its updates are
-- evaluated and leave others
abbrev pub IsSeenApart : List ℤ → ℕ → List ℤ → Action → State → State → Type 0
IsSeenApart tried columns vs a m m' =
    Fails tried m vs a.guard ⊎ (Every (IsUpdate columns m vs) a.updates × (m' ≡ stored_all m (writes_of m (variable vs) a.updates) → ⊥))

-- so it is of the action of this place, with these arguments, of client c
abbrev pub IsApartAt : Development → List ℤ → World → ℕ → ℕ → List ℤ → State → Type 0
IsApartAt D tried w c i args m' =
    (a : Action) × (slice_get (all_actions D) i ≡ Some a) × IsSeenApart tried (column_count (first_system D)) (own (length w.clients) c ++ args) a w.columns m'

-- client c's step goes by an edge at which no action is said
abbrev pub IsUnsaid : Development → World → ℕ → Option Event → Type 0
IsUnsaid D w c None = ⊥
IsUnsaid D w c (Some (Invoked o ns)) = ⊥
IsUnsaid D w c (Some (Moved p e)) = (vs : List ℤ) × IsClient w c (In p vs) × (on_at D p e ≡ None)
IsUnsaid D w c (Some (Returned ns)) = ⊥

-- client c's step from world w, which leads to columns m', is seen to be no instance of its action: it changes columns where no action is said, or
-- the action that it is is seen not to lead to them
abbrev pub IsSeenNoAction : Development → List ℤ → World → ℕ → Option Event → State → Type 0
IsSeenNoAction D tried w c what m' =
    (IsUnsaid D w c what × (m' ≡ w.columns → ⊥)) ⊎ ((i : ℕ) × (args : List ℤ) × IsActing D w c what what i args × IsApartAt D tried w c i args m')

-- a step that is seen to be no instance of its action is none
abbrev pub SeenIsNoAction : Type 0
SeenIsNoAction =
    (D : Development) (tried : List ℤ) (w w' : World) (c : ℕ) (what : Event) → IsSeenNoAction D tried w c (Some what) w'.columns → IsAction D (length w.clients) w c what w' → ⊥
