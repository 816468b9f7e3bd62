use Rattle.clap.specs.Words.{found_of}
use Rattle.lc_words.specs.Tasks.{path_in}
use Rattle.lc_words.proofs.Found.{proving_found, proving_unfound}
use Rattle.lc_words.proofs.reading.prove_request.Goals as goal

pub returns-in_err-development : goal.returns-in_err-development
returns-in_err-development c = rw c.from_residual.ensures (proving_unfound (found_of c.args.command.now) c.in_err-development.ensures)

pub returns : goal.returns
returns c =
    proving_found (found_of c.args.command.now) c.in_ok-development.development.now (path_in c.get_str-hints.result) c.in_ok-development.ensures c.get_str-hints.ensures
