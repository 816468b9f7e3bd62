use Rattle.std.proofs.Common.{refl}
use Rattle.lc_cert.specs.CertificateView.{entries_in}
use Rattle.lc_check.specs.VerdictView.{development_in}
use Rattle.lc_outline.specs.DevelopmentView.{development_view}
use Rattle.lincheck.proofs.Carrying.{proofs_opened, old_is_certified, not_refused}
use Rattle.lincheck.proofs.carry.old_of.Goals as goal

pub returns-in-Ok-clause-opens : goal.returns-in-Ok-clause-opens
returns-in-Ok-clause-opens c =
    let opened = proofs_opened (development_in c.args.accepted) (development_view c.development.result.now) c.args.cert.now (entries_in c.in-Ok.certificate)
    c.a_certificate_is_read_or_refused.ensures.one_certificate c.requires c.development.ensures.shown c.in-Ok.ensures in
    (refl, opened.0, opened.1)

pub returns-in-Ok-clause-certified : goal.returns-in-Ok-clause-certified
returns-in-Ok-clause-certified c =
    let opened = proofs_opened (development_in c.args.accepted) (development_view c.development.result.now) c.args.cert.now (entries_in c.in-Ok.certificate)
    c.a_certificate_is_read_or_refused.ensures.one_certificate c.requires c.development.ensures.shown c.in-Ok.ensures in
    old_is_certified (record { accepted = c.args.accepted; certificate = c.in-Ok.certificate }) c.args.cert.now opened

pub returns-in_ok-told_fault-in-Err-clause-opens : goal.returns-in_ok-told_fault-in-Err-clause-opens
returns-in_ok-told_fault-in-Err-clause-opens c =
    not_refused _ (development_in c.args.accepted) (development_view c.development.result.now) c.args.cert.now c.in-Err.fault
    c.in_ok-told_fault-in-Err.field-0.text.items c.in_ok-told_fault-in-Err.field-0.status
    c.a_certificate_is_read_or_refused.ensures.not_both c.requires c.development.ensures.shown c.in-Err.ensures c.in_ok-told_fault-in-Err.ensures
