use Rattle.std.proofs.Common.{rules}
use Rattle.lc_action.specs.ActionView.{first_of}
use Rattle.lc_ride.specs.Drafts.{written_in_draft}
use Rattle.lc_term.specs.State.{state_of}
use Rattle.lc_seq.specs.SpecView.{operations_of, choice_of}
use Rattle.lc_ride.specs.Riding.{note}
use Rattle.lc_ride.proofs.Deeding.{untaken, not-noted, noted, stores-much}
use Rattle.lc_ride.proofs.deeds.note.Goals as goal

pub returns-in_err-found-clause-done : goal.returns-in_err-found-clause-done
returns-in_err-found-clause-done c =
    let m = written_in_draft c.args.draft.now in
    let wanted = note (operations_of c.args.call.operations.now) (first_of c.args.call.system) m c.args.call.client c.args.call.operation.0 (choice_of c.args.pick) in
    untaken c.args.call (state_of c.state.result.now) m c.state.ensures.written c.args.pick wanted c.args.marks.now.items c.from_residual.result c.in_err-found.field-0.0 c.from_residual.ensures.1 c.in_err-found.ensures.computed

pub returns-in-None-clause-done : goal.returns-in-None-clause-done
returns-in-None-clause-done c =
    not-noted c.args.call (state_of c.state.result.now) (written_in_draft c.args.draft.now) c.state.ensures.written c.args.pick c.args.marks.now.items c.in_ok-found.found c.in-None.is c.in_ok-found.ensures.computed

pub returns-then-not-stores_nothing-clause-done : goal.returns-then-not-stores_nothing-clause-done
returns-then-not-stores_nothing-clause-done c =
    stores-much c.args.call (state_of c.state.result.now) (written_in_draft c.args.draft.now) c.state.ensures.written c.args.pick c.in_ok-found.found c.in-Some.outcome c.in-Some.is c.in_ok-found.ensures.computed
    c.args.marks.now.items (search rules)

pub returns-clause-done : goal.returns-clause-done
returns-clause-done c =
    noted c.args.call (state_of c.state.result.now) (written_in_draft c.args.draft.now) c.state.ensures.written c.args.pick c.in_ok-found.found c.in-Some.outcome c.in-Some.is c.in_ok-found.ensures.computed
    c.args.marks.now.items c.push.new.self.items (written_in_draft c.write_all.new.self) (search rules) (search rules) (search rules)
