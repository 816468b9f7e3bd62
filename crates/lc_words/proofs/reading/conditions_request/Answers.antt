use Rattle.std.proofs.Common.{None, Some}
use Rattle.clap.specs.Words.{found_of}
use Rattle.lc_words.specs.Tasks.{chosen_task, path_in}
use Rattle.lc_words.proofs.Found.{listing_found, listing_unfound}
use Rattle.lc_words.proofs.reading.conditions_request.Goals as goal

pub returns-in_err-development : goal.returns-in_err-development
returns-in_err-development c = rw c.from_residual.ensures (listing_unfound (found_of c.args.command.now) c.in_err-development.ensures)

pub returns-in_err-chosen : goal.returns-in_err-chosen
returns-in_err-chosen c =
    let development = c.in_ok-development.development.now in
    rw c.from_residual-in_err-chosen.ensures
    (listing_found (found_of c.args.command.now) development (path_in c.get_str-at.result) (path_in c.get_str-point.result) (path_in c.get_str-kind.result) None c.in_ok-development.ensures
    c.get_str-at.ensures c.get_str-point.ensures c.get_str-kind.ensures (c.in_err-chosen.ensures development))

pub returns : goal.returns
returns c =
    let development = c.in_ok-development.development.now in
    listing_found (found_of c.args.command.now) development (path_in c.get_str-at.result) (path_in c.get_str-point.result) (path_in c.get_str-kind.result)
    (Some (chosen_task development c.in_ok-chosen.chosen)) c.in_ok-development.ensures c.get_str-at.ensures c.get_str-point.ensures c.get_str-kind.ensures (c.in_ok-chosen.ensures development)
