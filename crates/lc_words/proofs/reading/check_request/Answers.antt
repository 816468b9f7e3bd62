use Rattle.std.specs.Prelude.{option_map}
use Rattle.clap.specs.Words.{found_of}
use Rattle.lc_words.specs.Tasks.{task_of}
use Rattle.lc_words.proofs.Workers.{checking_found, checking_uncertified, checking_unfound}
use Rattle.lc_words.proofs.reading.check_request.Goals as goal

pub returns-in_err-development : goal.returns-in_err-development
returns-in_err-development c = rw c.from_residual.ensures (checking_unfound (found_of c.args.command.now) c.in_err-development.ensures)

pub returns-in_err-certificate : goal.returns-in_err-certificate
returns-in_err-certificate c =
    rw c.from_residual-in_err-certificate.ensures
    (checking_uncertified (found_of c.args.command.now) c.in_ok-development.development.now c.in_ok-development.ensures c.in_err-certificate.ensures)

pub returns : goal.returns
returns c =
    checking_found (found_of c.args.command.now) c.in_ok-development.development.now c.in_ok-certificate.certificate.now c.number_given-workers.result c.is_set-progress.result
    (option_map task_of c.checked.result) c.in_ok-development.ensures c.in_ok-certificate.ensures c.number_given-workers.ensures c.is_set-progress.ensures c.checked.ensures
