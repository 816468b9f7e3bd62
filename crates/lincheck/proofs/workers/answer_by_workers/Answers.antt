use Rattle.lc_outline.specs.DevelopmentView.{development_view}
use Rattle.lincheck.proofs.Opened.{certificate_answered}
use Rattle.lincheck.proofs.workers.answer_by_workers.Goals as goal

pub returns-clause-answers : goal.returns-clause-answers
returns-clause-answers g c =
    certificate_answered (development_view c.args.development) (g.F.Files.bytes_at c.args.files.now c.args.path.now) c.in_ok-cert.cert.items c.deref.result.now
    c.in_ok-verdict.verdict c.in_ok-tell_verdict.field-0.text.items c.in_ok-tell_verdict.field-0.status
    c.in_ok-cert.ensures.bytes c.deref.ensures.value c.in_ok-verdict.ensures.exactly c.in_ok-tell_verdict.ensures
