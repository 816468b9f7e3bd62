use Rattle.std.proofs.Common.{None, Some}
use Rattle.clap.specs.Words.{found_of}
use Rattle.lc_words.proofs.Found.{beginning_found, beginning_unfound}
use Rattle.lc_words.proofs.reading.new_request.Goals as goal

pub returns-in_err-text : goal.returns-in_err-text
returns-in_err-text c = rw c.from_residual.ensures (beginning_unfound (found_of c.args.command.now) c.in_err-text.ensures)

pub returns-in_err-new : goal.returns-in_err-new
returns-in_err-new c =
    rw c.from_residual-in_err-new.ensures (beginning_found (found_of c.args.command.now) c.in_ok-text.text.now None c.in_ok-text.ensures c.in_err-new.ensures.valid)

pub returns : goal.returns
returns c = beginning_found (found_of c.args.command.now) c.in_ok-text.text.now (Some c.in_ok-new.field-0) c.in_ok-text.ensures c.in_ok-new.ensures.valid
