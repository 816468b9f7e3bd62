use Rattle.std.proofs.Common.{None, Some, codes, refl}
use Rattle.clap.specs.Words.{first_value, found_of, rows_of}
use Rattle.lc_words.specs.Reading.{shown_given}
use Rattle.lc_words.proofs.Found.{drawing_found, shown_found}
use Rattle.lc_words.proofs.reading.draw_request.Goals as goal

pub returns-in_err-development : goal.returns-in_err-development
returns-in_err-development c =
    let f = found_of c.args.command.now in
    rw c.from_residual.ensures (drawing_found f None (first_value f (codes "HISTORY")) (shown_given (rows_of f)) c.in_err-development.ensures refl refl)

pub returns-in_err-history : goal.returns-in_err-history
returns-in_err-history c =
    let f = found_of c.args.command.now in
    rw c.from_residual-in_err-history.ensures
    (drawing_found f (Some c.in_ok-development.development.now) None (shown_given (rows_of f)) c.in_ok-development.ensures c.in_err-history.ensures refl)

pub returns-in_err-shown : goal.returns-in_err-shown
returns-in_err-shown c =
    let f = found_of c.args.command.now in
    let given = shown_found f c.is_set-html.result c.number_given-around.result c.number_given-width.result None c.is_set-html.ensures c.number_given-around.ensures c.number_given-width.ensures c.in_err-shown.ensures in
    rw c.from_residual-in_err-shown.ensures
    (drawing_found f (Some c.in_ok-development.development.now) (Some c.in_ok-history.history.now) None c.in_ok-development.ensures c.in_ok-history.ensures given)

pub returns : goal.returns
returns c =
    let f = found_of c.args.command.now in
    let given = shown_found f c.is_set-html.result c.number_given-around.result c.number_given-width.result (Some c.in_ok-shown.shown) c.is_set-html.ensures c.number_given-around.ensures c.number_given-width.ensures c.in_ok-shown.ensures in
    drawing_found f (Some c.in_ok-development.development.now) (Some c.in_ok-history.history.now) (Some c.in_ok-shown.shown) c.in_ok-development.ensures c.in_ok-history.ensures given
