use Rattle.std.proofs.Common.{None, Some, codes, option_map, refl}
use Rattle.clap.specs.Words.{found_of, rows_of}
use Rattle.lc_words.specs.Reading.{is_set, number_given, setting_given}
use Rattle.lc_words.specs.Tasks.{path_in, setting_of}
use Rattle.lc_words.proofs.Found.{exploring_found, setting_found}
use Rattle.lc_words.proofs.reading.explore_request.Goals as goal

pub returns-in_err-development : goal.returns-in_err-development
returns-in_err-development c =
    let f = found_of c.args.command.now in
    rw c.from_residual.ensures (exploring_found f None (setting_given (rows_of f)) (is_set (codes "bare") (rows_of f)) (number_given (codes "budget") (rows_of f)) c.in_err-development.ensures refl refl refl)

pub returns-in_err-scope : goal.returns-in_err-scope
returns-in_err-scope c =
    let f = found_of c.args.command.now in
    let given = setting_found f (path_in c.get_str-plan.result) c.number_given-clients.result c.number_given-calls.result (path_in c.get_str-numbers.result) None c.get_str-plan.ensures c.number_given-clients.ensures
    c.number_given-calls.ensures c.get_str-numbers.ensures c.in_err-scope.ensures in
    rw c.from_residual-in_err-scope.ensures
    (exploring_found f (Some c.in_ok-development.development.now) None (is_set (codes "bare") (rows_of f)) (number_given (codes "budget") (rows_of f)) c.in_ok-development.ensures given refl refl)

pub returns : goal.returns
returns c =
    let f = found_of c.args.command.now in
    let given = setting_found f (path_in c.get_str-plan.result) c.number_given-clients.result c.number_given-calls.result (path_in c.get_str-numbers.result) (Some (setting_of c.in_ok-scope.scope))
    c.get_str-plan.ensures c.number_given-clients.ensures c.number_given-calls.ensures c.get_str-numbers.ensures c.in_ok-scope.ensures in
    exploring_found f (Some c.in_ok-development.development.now) (Some (setting_of c.in_ok-scope.scope)) c.is_set-bare.result c.number_given-budget.result c.in_ok-development.ensures given c.is_set-bare.ensures c.number_given-budget.ensures
