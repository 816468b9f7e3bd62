use Rattle.clap.specs.Words.{found_of}
use Rattle.lc_words.proofs.Found.{completing_found, completing_unfound}
use Rattle.lc_words.proofs.reading.complete_request.Goals as goal

pub returns-in_err-short : goal.returns-in_err-short
returns-in_err-short c = rw c.from_residual.ensures (completing_unfound (found_of c.args.command.now) c.in_err-short.ensures)

pub returns : goal.returns
returns c =
    completing_found (found_of c.args.command.now) c.in_ok-short.short.now c.number_given-budget.result c.in_ok-short.ensures c.number_given-budget.ensures
