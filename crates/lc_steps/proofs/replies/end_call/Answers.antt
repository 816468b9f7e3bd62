use Rattle.std.proofs.Common.{◌≡◌, true, false, sym, subst, ◌∙◌, rules}
use Rattle.lc_ride.specs.Drafts.{written_in_draft}
use Rattle.lc_term.specs.Updates.{stored_all}
use Rattle.lc_action.specs.ActionView.{first_of}
use Rattle.lc_rider.specs.Rider.{return_writes}
use Rattle.lc_steps.specs.Replies.{is_justified, ReplyFits}
use Rattle.lc_steps.proofs.Replying.{end-fault}
use Rattle.lc_steps.proofs.replies.end_call.Goals as goal

pub returns-in_err-is_justified-clause-returned : goal.returns-in_err-is_justified-clause-returned
returns-in_err-is_justified-clause-returned c =
    let first = first_of c.args.system in
    let m = written_in_draft c.args.draft.now in
    let x = c.args.client in
    let ns = c.args.numbers.now in
    end-fault first m x ns m c.from_residual.result c.from_residual.ensures.1
    (λ h. c.in_err-is_justified.ensures (subst (λ s. ReplyFits first s x ns) (sym c.state.ensures.written) h))

pub returns-then-not-branch-clause-returned : goal.returns-then-not-branch-clause-returned
returns-then-not-branch-clause-returned c =
    let first = first_of c.args.system in
    let x = c.args.client in
    let ns = c.args.numbers.now in
    let b = c.in_ok-is_justified.field-0 in
    let known = subst (λ s. ReplyFits first s x ns × (b ≡ is_justified first s x ns)) c.state.ensures.written c.in_ok-is_justified.ensures in
    let is : b ≡ false = search rules in
    (known.0, sym known.1 ∙ is)

pub returns-clause-returned : goal.returns-clause-returned
returns-clause-returned c =
    let first = first_of c.args.system in
    let x = c.args.client in
    let ns = c.args.numbers.now in
    let b = c.in_ok-is_justified.field-0 in
    let known = subst (λ s. ReplyFits first s x ns × (b ≡ is_justified first s x ns)) c.state.ensures.written c.in_ok-is_justified.ensures in
    let is : b ≡ true = search rules in
    let stored : written_in_draft c.write_all.new.self ≡ stored_all (written_in_draft c.args.draft.now) (return_writes first x) = search rules in
    (known.0, sym known.1 ∙ is, stored)
