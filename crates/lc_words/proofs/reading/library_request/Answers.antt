use Rattle.std.proofs.Common.{None, Some}
use Rattle.clap.specs.Words.{found_of}
use Rattle.lc_words.proofs.Found.{library_found, library_unfound, library_unnamed}
use Rattle.lc_words.proofs.reading.library_request.Goals as goal

pub returns-in_err-name : goal.returns-in_err-name
returns-in_err-name c = rw c.from_residual.ensures (library_unfound (found_of c.args.command.now) c.in_err-name.ensures)

pub returns-in_err-lib : goal.returns-in_err-lib
returns-in_err-lib c = rw c.from_residual-in_err-lib.ensures (library_unnamed (found_of c.args.command.now) c.in_ok-name.name.now c.in_ok-name.ensures c.in_err-lib.ensures)

pub returns-in_err-text : goal.returns-in_err-text
returns-in_err-text c =
    rw c.from_residual-in_err-text.ensures
    (library_found (found_of c.args.command.now) c.in_ok-name.name.now c.in_ok-lib.lib c.is_set-certificate.result c.is_set-hints.result None c.in_ok-name.ensures c.in_ok-lib.ensures
    c.is_set-certificate.ensures c.is_set-hints.ensures c.in_err-text.ensures)

pub returns : goal.returns
returns c =
    library_found (found_of c.args.command.now) c.in_ok-name.name.now c.in_ok-lib.lib c.is_set-certificate.result c.is_set-hints.result (Some c.in_ok-text.text) c.in_ok-name.ensures
    c.in_ok-lib.ensures c.is_set-certificate.ensures c.is_set-hints.ensures c.in_ok-text.ensures
