use Rattle.std.proofs.Common.{ap, sym, subst}
use Rattle.lc_ride.specs.Drafts.{written_in_draft}
use Rattle.lc_rider.specs.RiderView.{rider_of}
use Rattle.lc_ride.specs.Calls.{Does}
use Rattle.lc_ride.proofs.riding.do_deed.Goals as goal

pub returns-in-LinSelf-clause-done : goal.returns-in-LinSelf-clause-done
returns-in-LinSelf-clause-done c =
    let call = c.settle_own in
    subst (λ d. Does c.args.rides.now (written_in_draft c.args.draft.now) d c.args.marks.now.items call.new.marks.items (written_in_draft call.new.draft) call.result)
    (sym (ap (λ r. (rider_of r).deed) c.in-LinSelf.is)) call.ensures.done

pub returns-in-Note-clause-done : goal.returns-in-Note-clause-done
returns-in-Note-clause-done c =
    let call = c.note_own in
    subst (λ d. Does c.args.rides.now (written_in_draft c.args.draft.now) d c.args.marks.now.items call.new.marks.items (written_in_draft call.new.draft) call.result)
    (sym (ap (λ r. (rider_of r).deed) c.in-Note.is)) call.ensures.done
