use Rattle.std.proofs.Common.{◌≡◌, true, drop}
use Rattle.std.specs.List.{list_all}
use Rattle.lc_ride.specs.Drafts.{written_in_draft, saved_in_draft, draft_columns}
use Rattle.lc_term.specs.State.{env_of, variable_count}
use Rattle.lc_action.specs.ActionView.{first_of}
use Rattle.lc_seq.specs.SpecView.{operations_of}
use Rattle.lc_rider.specs.RiderView.{riders_of}
use Rattle.lc_ride.specs.RideView.{rider_is_evaluable}
use Rattle.lc_ride.proofs.InOrder.{LeadsOn}
use Rattle.lc_ride.proofs.riding.ride_all.Given as goal

-- what the riders that are left come to is what all come to
abbrev pub invariant-loop-rider : goal.invariant-loop-rider
invariant-loop-rider l =
    let rest = riders_of (drop l.rider-index l.riders) in
    record {
      seen : list_all (rider_is_evaluable (draft_columns l.draft) (variable_count l.rides.env.now)) rest ≡ true;
      leads : LeadsOn (operations_of l.rides.operations.now) (first_of l.rides.system) l.rides.client l.rides.operation.0 (env_of l.rides.env.now)
          (written_in_draft l.fn.draft) (riders_of l.riders) l.fn.marks.items (written_in_draft l.draft) rest l.marks.items;
      saved : saved_in_draft l.draft ≡ saved_in_draft l.fn.draft;
      columns : draft_columns l.draft ≡ draft_columns l.fn.draft;
    }
