use Rattle.std.proofs.Common.{None, Some, codes, refl}
use Rattle.clap.specs.Words.{first_value, found_of, rows_of}
use Rattle.lc_words.specs.Reading.{turns_given}
use Rattle.lc_words.specs.Tasks.{path_in}
use Rattle.lc_words.proofs.Found.{running_found, turns_found}
use Rattle.lc_words.proofs.reading.run_request.Goals as goal

pub returns-in_err-development : goal.returns-in_err-development
returns-in_err-development c =
    let f = found_of c.args.command.now in
    rw c.from_residual.ensures (running_found f None (first_value f (codes "CERT")) (first_value f (codes "PLAN")) (turns_given (rows_of f)) c.in_err-development.ensures refl refl refl)

pub returns-in_err-certificate : goal.returns-in_err-certificate
returns-in_err-certificate c =
    let f = found_of c.args.command.now in
    rw c.from_residual-in_err-certificate.ensures
    (running_found f (Some c.in_ok-development.development.now) None (first_value f (codes "PLAN")) (turns_given (rows_of f)) c.in_ok-development.ensures c.in_err-certificate.ensures refl refl)

pub returns-in_err-plan : goal.returns-in_err-plan
returns-in_err-plan c =
    let f = found_of c.args.command.now in
    rw c.from_residual-in_err-plan.ensures
    (running_found f (Some c.in_ok-development.development.now) (Some c.in_ok-certificate.certificate.now) None (turns_given (rows_of f)) c.in_ok-development.ensures c.in_ok-certificate.ensures
    c.in_err-plan.ensures refl)

pub returns-in_err-turns : goal.returns-in_err-turns
returns-in_err-turns c =
    let f = found_of c.args.command.now in
    let given = turns_found f c.number_given-seed.result (path_in c.get_str-seeds.result) c.is_set-trace.result None c.number_given-seed.ensures c.get_str-seeds.ensures c.is_set-trace.ensures c.in_err-turns.ensures in
    rw c.from_residual-in_err-turns.ensures
    (running_found f (Some c.in_ok-development.development.now) (Some c.in_ok-certificate.certificate.now) (Some c.in_ok-plan.plan.now) None c.in_ok-development.ensures c.in_ok-certificate.ensures
    c.in_ok-plan.ensures given)

pub returns : goal.returns
returns c =
    let f = found_of c.args.command.now in
    let given = turns_found f c.number_given-seed.result (path_in c.get_str-seeds.result) c.is_set-trace.result (Some c.in_ok-turns.turns) c.number_given-seed.ensures c.get_str-seeds.ensures c.is_set-trace.ensures c.in_ok-turns.ensures in
    running_found f (Some c.in_ok-development.development.now) (Some c.in_ok-certificate.certificate.now) (Some c.in_ok-plan.plan.now) (Some c.in_ok-turns.turns) c.in_ok-development.ensures
    c.in_ok-certificate.ensures c.in_ok-plan.ensures given
