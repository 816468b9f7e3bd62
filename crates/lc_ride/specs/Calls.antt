-- Calls that marks settle and note, and riders that ride, as their contracts say it.
use Rattle.std.specs.Prelude.{◌≡◌, ℕ, ◌<◌, ◌≤◌, ◌^◌, Bool, List, Result, pos}
use Rattle.lc_base.specs.Limits.{argument_limit}
use Rattle.lc_term.specs.Meaning.{State}
use Rattle.lc_term.specs.State.{env_of}
use Rattle.lc_action.specs.ActionView.{first_of}
use Rattle.lc_seq.specs.Branches.{arity}
use Rattle.lc_seq.specs.Sequential.{Choice}
use Rattle.lc_seq.specs.SpecView.{operations_of}
use Rattle.lc_seq.specs.declared.fault.SeqFault.{SeqFault}
use Rattle.lc_rider.specs.Rider.{Deed}
use Rattle.lc_ride.specs.Riding.{settle, note, help, do_deed}
use Rattle.lc_ride.specs.RidingFits.{TakenFits, HelpFits, DeedFits}
use Rattle.lc_ride.specs.RideView.{AreThere, IsRidden}
use Rattle.lc_ride.specs.declared.marks.Mark.{Mark}
use Rattle.lc_ride.specs.declared.riding.Rides.{Rides}
use Rattle.lc_ride.specs.declared.settling.Call.{Call}

-- there are enough columns for the call, and its arguments and its client are no more than there can be
pub record HasRoom (call : Call) (columns : ℕ) : Type 0 where
  pub there : AreThere (operations_of call.operations.now) (first_of call.system) columns
  pub few : arity (operations_of call.operations.now) call.operation.0 ≤ argument_limit
  pub client : call.client < 2 ^ 63

-- what is returned when the call takes effect under a choice, is noted, or takes effect if it is of its operation; the columns were m
abbrev pub Settles : Call → State → Choice → List Mark → List Mark → State → Result Bool SeqFault → Type 0
Settles call m choice =
    let operations = operations_of call.operations.now in
    let first = first_of call.system in
    IsRidden (TakenFits operations first m call.client call.operation.0 choice) (settle operations first m call.client call.operation.0 choice)

abbrev pub Notes : Call → State → Choice → List Mark → List Mark → State → Result Bool SeqFault → Type 0
Notes call m choice =
    let operations = operations_of call.operations.now in
    let first = first_of call.system in
    IsRidden (TakenFits operations first m call.client call.operation.0 choice) (note operations first m call.client call.operation.0 choice)

abbrev pub Helps : Call → State → Choice → List Mark → List Mark → State → Result Bool SeqFault → Type 0
Helps call m choice =
    let operations = operations_of call.operations.now in
    let first = first_of call.system in
    IsRidden (HelpFits operations first m (pos call.client) call.operation.0 choice) (help operations first m (pos call.client) call.operation.0 choice)

-- there are enough columns for all operations, and their arguments and the client are no more than there can be
pub record CanRide (rides : Rides) (columns : ℕ) : Type 0 where
  pub there : AreThere (operations_of rides.operations.now) (first_of rides.system) columns
  pub few : (o : ℕ) → arity (operations_of rides.operations.now) o ≤ argument_limit
  pub client : rides.client < 2 ^ 63

-- what is returned when a deed is done
abbrev pub Does : Rides → State → Deed → List Mark → List Mark → State → Result Bool SeqFault → Type 0
Does rides m d =
    let operations = operations_of rides.operations.now in
    let first = first_of rides.system in
    let e = env_of rides.env.now in
    IsRidden (DeedFits operations first rides.client rides.operation.0 e m d) (do_deed operations first rides.client rides.operation.0 e m d)
