use Rattle.std.proofs.Common.{◌≡◌, pos, rules, subst}
use Rattle.lc_action.specs.ActionView.{first_of}
use Rattle.lc_ride.specs.Drafts.{written_in_draft}
use Rattle.lc_seq.specs.SpecView.{operations_of, choice_of}
use Rattle.lc_ride.specs.Riding.{help}
use Rattle.lc_ride.specs.RidingFits.{HelpFits}
use Rattle.lc_ride.specs.RideView.{IsRidden}
use Rattle.lc_ride.proofs.deeds.help.Goals as goal

pub returns-clause-done : goal.returns-clause-done
returns-clause-done c =
    let ops = operations_of c.args.operations.now in
    let m = written_in_draft c.args.draft.now in
    let first = first_of c.args.system in
    let p = c.args.operation.0 in
    let ch = choice_of c.args.pick in
    let same : pos c.client_of-client.result ≡ c.args.client = search rules in
    subst (λ x. IsRidden (HelpFits ops first m x p ch) (help ops first m x p ch) c.args.marks.now.items c.help_client.new.marks.items (written_in_draft c.help_client.new.draft) c.help_client.result)
    same c.help_client.ensures.done
