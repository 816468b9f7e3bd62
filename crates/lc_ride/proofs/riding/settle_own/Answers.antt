use Rattle.std.proofs.Common.{subst}
use Rattle.lc_ride.specs.Drafts.{written_in_draft, draft_columns}
use Rattle.lc_term.specs.State.{state_of}
use Rattle.lc_seq.specs.SpecView.{choice_of}
use Rattle.lc_rider.specs.Rider.{Own}
use Rattle.lc_rider.specs.RiderView.{choosing_of}
use Rattle.lc_ride.specs.Calls.{Settles}
use Rattle.lc_ride.proofs.Wherever.{not-picked, picked, room-for}
use Rattle.lc_ride.proofs.riding.settle_own.Goals as goal

pub returns-in_err-pick-clause-done : goal.returns-in_err-pick-clause-done
returns-in_err-pick-clause-done c =
    not-picked c.args.rides.now (state_of c.state.result.now) (written_in_draft c.args.draft.now) c.state.ensures.written Own (choosing_of c.args.by.now)
    c.args.marks.now.items c.from_residual.result c.in_err-pick.field-0.0 c.from_residual.ensures.1 c.in_err-pick.ensures

pub settle-requires : goal.settle-requires
settle-requires c = room-for c.args.rides.now c.own_call.result (draft_columns c.args.draft.now) c.own_call.ensures c.requires.rides

pub returns-clause-done : goal.returns-clause-done
returns-clause-done c =
    let m = written_in_draft c.args.draft.now in
    let marks = c.args.marks.now.items in
    let ch = choice_of c.in_ok-pick.pick in
    let end = written_in_draft c.settle.new.draft in
    picked c.args.rides.now (state_of c.state.result.now) m c.state.ensures.written Own (choosing_of c.args.by.now) ch c.in_ok-pick.ensures marks c.settle.new.marks.items end c.settle.result
    (subst (λ call. Settles call m ch marks c.settle.new.marks.items end c.settle.result) c.own_call.ensures c.settle.ensures.done)
