use Rattle.std.proofs.Common.{◌≡◌, ◌+◌, ◌∷◌, true, false, Ok, drop, arith, rules, ap, sym, subst}
use Rattle.std.specs.List.{list_all}
use Rattle.lc_lemmas.proofs.Lists.{drop_at_element, dropped_all}
use Rattle.lc_lemmas.proofs.Booleans.{right_true}
use Rattle.lc_ride.specs.Drafts.{written_in_draft, saved_in_draft, draft_columns}
use Rattle.lc_term.specs.State.{env_of, variable_count}
use Rattle.lc_action.specs.ActionView.{first_of}
use Rattle.lc_seq.specs.SpecView.{operations_of}
use Rattle.lc_rider.specs.RiderView.{rider_of, riders_of}
use Rattle.lc_ride.specs.Riding.{do_rider, do_all}
use Rattle.lc_ride.specs.RidingFits.{RiderFits, RidersFit}
use Rattle.lc_ride.specs.RideView.{AreThere, IsRidden, rider_is_evaluable}
use Rattle.lc_ride.proofs.Deeding.{fault_is_ridden}
use Rattle.lc_ride.proofs.InOrder.{Answers, none-left, one-done, one-not-done}
use Rattle.lc_ride.proofs.riding.ride_all.Goals as goal

pub returns-clause-done : goal.returns-clause-done
returns-clause-done c =
    let ops = operations_of c.args.rides.now.operations.now in
    let first = first_of c.args.rides.now.system in
    let x = c.args.rides.now.client in
    let o = c.args.rides.now.operation.0 in
    let e = env_of c.args.rides.now.env.now in
    let m = written_in_draft c.loop-rider.draft in
    let marks = c.loop-rider.marks.items in
    let none = ap riders_of (dropped_all c.args.riders.now c.loop-rider.rider-index (omega arith)) in
    c.loop-rider.invariant.leads marks m (Ok true) (subst (λ rs. Answers ops first x o e m rs marks marks m (Ok true)) (sym none) (none-left ops first x o e m marks))

pub returns-then-not-branch-clause-done : goal.returns-then-not-branch-clause-done
returns-then-not-branch-clause-done c =
    let ops = operations_of c.args.rides.now.operations.now in
    let first = first_of c.args.rides.now.system in
    let x = c.args.rides.now.client in
    let o = c.args.rides.now.operation.0 in
    let e = env_of c.args.rides.now.env.now in
    let m = written_in_draft c.loop-rider.draft in
    let marks = c.loop-rider.marks.items in
    let r = rider_of c.rider-item.result in
    let rs = riders_of (drop (c.loop-rider.rider-index + 1) c.args.riders.now) in
    let front = ap riders_of (drop_at_element c.args.riders.now c.loop-rider.rider-index c.rider-item.result (omega arith) c.rider-item.is) in
    let new = c.do_rider.new.marks.items in
    let mid = written_in_draft c.do_rider.new.draft in
    let not-done : c.in_ok-do_rider.field-0 ≡ false = search rules in
    let one : IsRidden (RiderFits ops first x o e m r) (do_rider ops first x o e m r) marks new mid (Ok false) =
    subst (λ b. IsRidden (RiderFits ops first x o e m r) (do_rider ops first x o e m r) marks new mid (Ok b)) not-done c.in_ok-do_rider.ensures.done in
    c.loop-rider.invariant.leads new mid (Ok false) (subst (λ xs. Answers ops first x o e m xs marks new mid (Ok false)) (sym front) (one-not-done ops first x o e m r rs mid marks new new mid one))

pub returns-in_err-do_rider-clause-done : goal.returns-in_err-do_rider-clause-done
returns-in_err-do_rider-clause-done c =
    let ops = operations_of c.args.rides.now.operations.now in
    let first = first_of c.args.rides.now.system in
    let x = c.args.rides.now.client in
    let o = c.args.rides.now.operation.0 in
    let e = env_of c.args.rides.now.env.now in
    let m = written_in_draft c.loop-rider.draft in
    let marks = c.loop-rider.marks.items in
    let r = rider_of c.rider-item.result in
    let rs = riders_of (drop (c.loop-rider.rider-index + 1) c.args.riders.now) in
    let front = ap riders_of (drop_at_element c.args.riders.now c.loop-rider.rider-index c.rider-item.result (omega arith) c.rider-item.is) in
    let new = c.do_rider.new.marks.items in
    let mid = written_in_draft c.do_rider.new.draft in
    let fault = c.in_err-do_rider.field-0.0 in
    let here = fault_is_ridden (RidersFit ops first x o e m (r ∷ rs)) (RiderFits ops first x o e m r) (do_all ops first x o e m (r ∷ rs)) marks new mid c.from_residual.result fault c.from_residual.ensures.1 (λ t. t.0) c.in_err-do_rider.ensures.done in
    c.loop-rider.invariant.leads new mid c.from_residual.result (subst (λ xs. Answers ops first x o e m xs marks new mid c.from_residual.result) (sym front) here)

pub do_rider-requires-clause-rides : goal.do_rider-requires-clause-rides
do_rider-requires-clause-rides c = record {
  there = subst (AreThere (operations_of c.args.rides.now.operations.now) (first_of c.args.rides.now.system)) (sym c.loop-rider.invariant.columns) c.requires.there;
  few = c.requires.few;
  client = c.requires.client;
}

pub loop-rider-preserved : goal.loop-rider-preserved
loop-rider-preserved c =
    let ops = operations_of c.args.rides.now.operations.now in
    let first = first_of c.args.rides.now.system in
    let x = c.args.rides.now.client in
    let o = c.args.rides.now.operation.0 in
    let e = env_of c.args.rides.now.env.now in
    let v = variable_count c.args.rides.now.env.now in
    let n = draft_columns c.loop-rider.draft in
    let m = written_in_draft c.loop-rider.draft in
    let marks = c.loop-rider.marks.items in
    let r = rider_of c.rider-item.result in
    let rs = riders_of (drop (c.loop-rider.rider-index + 1) c.args.riders.now) in
    let front = ap riders_of (drop_at_element c.args.riders.now c.loop-rider.rider-index c.rider-item.result (omega arith) c.rider-item.is) in
    let new = c.do_rider.new.marks.items in
    let mid = written_in_draft c.do_rider.new.draft in
    let is-done : c.in_ok-do_rider.field-0 ≡ true = search rules in
    let one : IsRidden (RiderFits ops first x o e m r) (do_rider ops first x o e m r) marks new mid (Ok true) =
    subst (λ b. IsRidden (RiderFits ops first x o e m r) (do_rider ops first x o e m r) marks new mid (Ok b)) is-done c.in_ok-do_rider.ensures.done in
    let seen : list_all (rider_is_evaluable n v) rs ≡ true =
    right_true (rider_is_evaluable n v r) (list_all (rider_is_evaluable n v) rs) (subst (λ xs. list_all (rider_is_evaluable n v) xs ≡ true) front c.loop-rider.invariant.seen) in
    let columns : draft_columns c.do_rider.new.draft ≡ n = search rules in
    let from-start : draft_columns c.do_rider.new.draft ≡ draft_columns c.args.draft.now = search rules in
    let saved : saved_in_draft c.do_rider.new.draft ≡ saved_in_draft c.args.draft.now = search rules in
    record {
      seen = subst (λ k. list_all (rider_is_evaluable k v) rs ≡ true) (sym columns) seen;
      leads = λ after end answer h. c.loop-rider.invariant.leads after end answer
          (subst (λ xs. Answers ops first x o e m xs marks after end answer) (sym front) (one-done ops first x o e m r rs mid marks new after end answer one h));
      saved = saved;
      columns = from-start;
    }
