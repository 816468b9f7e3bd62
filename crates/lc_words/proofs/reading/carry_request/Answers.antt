use Rattle.std.proofs.Common.{None, Some, codes, refl}
use Rattle.clap.specs.Words.{first_value, found_of}
use Rattle.lc_words.specs.Tasks.{path_in}
use Rattle.lc_words.proofs.Found.{carrying_found}
use Rattle.lc_words.proofs.reading.carry_request.Goals as goal

pub returns-in_err-old : goal.returns-in_err-old
returns-in_err-old c =
    let f = found_of c.args.command.now in
    rw c.from_residual.ensures (carrying_found f None (first_value f (codes "CERT")) (first_value f (codes "NEW")) (first_value f (codes "hints")) c.in_err-old.ensures refl refl refl)

pub returns-in_err-certificate : goal.returns-in_err-certificate
returns-in_err-certificate c =
    let f = found_of c.args.command.now in
    rw c.from_residual-in_err-certificate.ensures
    (carrying_found f (Some c.in_ok-old.old.now) None (first_value f (codes "NEW")) (first_value f (codes "hints")) c.in_ok-old.ensures c.in_err-certificate.ensures refl refl)

pub returns-in_err-new : goal.returns-in_err-new
returns-in_err-new c =
    let f = found_of c.args.command.now in
    rw c.from_residual-in_err-new.ensures
    (carrying_found f (Some c.in_ok-old.old.now) (Some c.in_ok-certificate.certificate.now) None (first_value f (codes "hints")) c.in_ok-old.ensures c.in_ok-certificate.ensures c.in_err-new.ensures refl)

pub returns : goal.returns
returns c =
    carrying_found (found_of c.args.command.now) (Some c.in_ok-old.old.now) (Some c.in_ok-certificate.certificate.now) (Some c.in_ok-new.new.now) (path_in c.get_str-hints.result)
    c.in_ok-old.ensures c.in_ok-certificate.ensures c.in_ok-new.ensures c.get_str-hints.ensures
