use Rattle.std.proofs.Common.{refl, inl}
use Rattle.lc_cert.specs.CertificateView.{entries_in}
use Rattle.lc_cert.specs.Printed.{certificate_line}
use Rattle.lc_outline.specs.DevelopmentView.{development_view}
use Rattle.lincheck.proofs.complete.told_made.Goals as goal

pub returns-in-Ok : goal.returns-in-Ok
returns-in-Ok g c =
    inl (refl, refl, (certificate_line (development_view c.args.made.development) (entries_in c.in-Ok.field-0), c.in-Ok.ensures.accepted))
