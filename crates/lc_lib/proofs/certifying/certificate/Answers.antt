use Rattle.lc_outline.specs.DevelopmentView.{development_view}
use Rattle.lc_lib.proofs.Made.{accepted_answer, result_answers_certificate, development_fault_answers, hints_fault_answers}
use Rattle.lc_lib.proofs.certifying.certificate.Goals as goal

pub returns-in-Err-clause-exactly : goal.returns-in-Err-clause-exactly
returns-in-Err-clause-exactly c = development_fault_answers c.args.lib c.in-Err.fault c.in-Err.ensures

pub returns-in-Err-read_hints-clause-exactly : goal.returns-in-Err-read_hints-clause-exactly
returns-in-Err-read_hints-clause-exactly c = hints_fault_answers c.args.lib (development_view c.in-Ok.development) c.in-Err-read_hints.fault c.in-Ok.ensures c.in-Err-read_hints.ensures

pub returns-clause-exactly : goal.returns-clause-exactly
returns-clause-exactly c =
    result_answers_certificate c.args.lib (development_view c.in-Ok.development) c.in-Ok-read_hints.hints c.certificate_by.result c.in-Ok.ensures c.in-Ok-read_hints.ensures c.certificate_by.ensures

pub returns-clause-accepted : goal.returns-clause-accepted
returns-clause-accepted c =
    accepted_answer c.args.lib c.certificate_by.result
    (result_answers_certificate c.args.lib (development_view c.in-Ok.development) c.in-Ok-read_hints.hints c.certificate_by.result c.in-Ok.ensures c.in-Ok-read_hints.ensures c.certificate_by.ensures)
