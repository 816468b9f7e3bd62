use Rattle.std.proofs.Common.{[], refl}
use Rattle.lc_outline.specs.DevelopmentView.{development_view}
use Rattle.lincheck.proofs.Opened.{certificate_finished}
use Rattle.lincheck.proofs.check.answer_certificate.Goals as goal

pub returns-clause-answers : goal.returns-clause-answers
returns-clause-answers g c =
    let D = development_view c.args.development in
    let fed = c.in_ok-feed_file.ensures.fed in
    certificate_finished D (g.F.Files.bytes_at c.args.files.now c.args.path.now) fed.0
    c.in_ok-finished.finished c.in_ok-answer.answer.text.items c.in_ok-answer.answer.status
    fed.2 (c.in_ok-finished.ensures.exactly D fed.0 (fed.1 D [] c.in_ok-session.ensures.start)) c.in_ok-answer.ensures
