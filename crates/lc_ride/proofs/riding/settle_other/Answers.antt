use mir.Val.{to_z, of_z}
use Rattle.std.proofs.Common.{◌≡◌, sym, subst, ◌∙◌, rules, w64}
use Rattle.lc_ride.specs.Drafts.{written_in_draft}
use Rattle.lc_term.specs.Meaning.{outside, value}
use Rattle.lc_term.specs.Reached.{TermFits}
use Rattle.lc_term.specs.State.{state_of, env_of}
use Rattle.lc_term.specs.View.{term_of}
use Rattle.lc_action.specs.ActionView.{first_of}
use Rattle.lc_seq.specs.SpecView.{operations_of, choice_of}
use Rattle.lc_seq.specs.declared.fault.SeqFault.TheVariants.{Overflow}
use Rattle.lc_rider.specs.Rider.{Other, Marks}
use Rattle.lc_rider.specs.RiderView.{choosing_of}
use Rattle.lc_ride.specs.Riding.{help, do_deed}
use Rattle.lc_ride.specs.RidingFits.{HelpFits, DeedFits}
use Rattle.lc_ride.proofs.Deeding.{fault_is_ridden}
use Rattle.lc_ride.proofs.Wherever.{not-picked, picked, by-client}
use Rattle.lc_ride.proofs.riding.settle_other.Goals as goal

pub returns-in_err-pick-clause-done : goal.returns-in_err-pick-clause-done
returns-in_err-pick-clause-done c =
    not-picked c.args.rides.now (state_of c.state.result.now) (written_in_draft c.args.draft.now) c.state.ensures.written (Other (term_of c.args.client.now) c.args.operation.0) (choosing_of c.args.by.now)
    c.args.marks.now.items c.from_residual.result c.in_err-pick.field-0.0 c.from_residual.ensures.1 c.in_err-pick.ensures

pub returns-in_err-number-clause-done : goal.returns-in_err-number-clause-done
returns-in_err-number-clause-done c =
    let ops = operations_of c.args.rides.now.operations.now in
    let first = first_of c.args.rides.now.system in
    let x = c.args.rides.now.client in
    let o = c.args.rides.now.operation.0 in
    let m = written_in_draft c.args.draft.now in
    let e = env_of c.args.rides.now.env.now in
    let t = term_of c.args.client.now in
    let d = Marks (Other t c.args.operation.0) (choosing_of c.args.by.now) in
    fault_is_ridden (DeedFits ops first x o e m d) (TermFits m e t) (do_deed ops first x o e m d) c.args.marks.now.items c.args.marks.now.items m
    c.from_residual-in_err-number.result Overflow c.from_residual-in_err-number.ensures.1 (λ fits. fits.1.0)
    (λ fits. c.in_err-number.ensures (subst (λ s. TermFits s e t) (sym c.state-2.ensures.written) fits))

pub returns-clause-done : goal.returns-clause-done
returns-clause-done c =
    let ops = operations_of c.args.rides.now.operations.now in
    let first = first_of c.args.rides.now.system in
    let m = written_in_draft c.args.draft.now in
    let e = env_of c.args.rides.now.env.now in
    let t = term_of c.args.client.now in
    let p = c.args.operation.0 in
    let ch = choice_of c.in_ok-pick.pick in
    let now = c.args.marks.now.items in
    let new = c.help.new.marks.items in
    let end = written_in_draft c.help.new.draft in
    let same : to_z w64 (of_z w64 c.in_ok-number.number) ≡ c.in_ok-number.number = search rules in
    let told : TermFits m e t × (c.in_ok-number.number ≡ value m e outside t) =
    subst (λ s. TermFits s e t × (c.in_ok-number.number ≡ value s e outside t)) c.state-2.ensures.written c.in_ok-number.ensures in
    picked c.args.rides.now (state_of c.state.result.now) m c.state.ensures.written (Other t p) (choosing_of c.args.by.now) ch c.in_ok-pick.ensures now new end c.help.result
    (by-client (TermFits m e t) (λ n. HelpFits ops first m n p ch) (λ n. help ops first m n p ch) (to_z w64 (of_z w64 c.in_ok-number.number)) (value m e outside t) now new end c.help.result told.0 (same ∙ told.1) c.help.ensures.done)
