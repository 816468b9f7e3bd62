use Rattle.lc_cert.specs.CertificateView.{entries_in}
use Rattle.lc_outline.specs.DevelopmentView.{development_view}
use Rattle.lc_explain_cert.proofs.unproved.unproved_conditions.Goals as goal

pub push_all-requires-clause-steps : goal.push_all-requires-clause-steps
push_all-requires-clause-steps c =
    c.a_certificate_is_read_or_refused.ensures.few_steps (development_view c.args.development.now) c.args.bytes.now (entries_in c.in-Ok.certificate) c.in-Ok.ensures
