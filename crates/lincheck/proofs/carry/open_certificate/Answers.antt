use Rattle.lc_outline.specs.DevelopmentView.{development_view}
use Rattle.lincheck.proofs.Carrying.{certificate_opened}
use Rattle.lincheck.proofs.carry.open_certificate.Goals as goal

pub returns-clause-opens : goal.returns-clause-opens
returns-clause-opens g c =
    certificate_opened (development_view c.args.development) (g.F.Files.bytes_at c.args.files.now c.args.path.now) c.in_ok-bytes.bytes.items c.deref.result.now c.in_ok-accept_certificate.field-0
    c.in_ok-bytes.ensures.bytes c.deref.ensures.value c.in_ok-accept_certificate.ensures.opens
