use Rattle.clap.specs.Words.{found_of}
use Rattle.lc_words.proofs.Found.{showing_found, showing_unfound}
use Rattle.lc_words.proofs.reading.show_request.Goals as goal

pub returns-in_err-development : goal.returns-in_err-development
returns-in_err-development c = rw c.from_residual.ensures (showing_unfound (found_of c.args.command.now) c.in_err-development.ensures)

pub returns : goal.returns
returns c = showing_found (found_of c.args.command.now) c.in_ok-development.development.now c.is_set-lines.result c.in_ok-development.ensures c.is_set-lines.ensures
