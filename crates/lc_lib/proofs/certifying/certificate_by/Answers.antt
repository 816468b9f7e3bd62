use Rattle.std.proofs.Common.{refl}
use Rattle.lc_outline.specs.DevelopmentView.{development_view}
use Rattle.lc_hints.specs.HintView.{proofs_in}
use Rattle.lc_lib.proofs.Made.{text_made, none_made}
use Rattle.lc_lib.proofs.certifying.certificate_by.Goals as goal

pub returns-in-Ok-certificate_text : goal.returns-in-Ok-certificate_text
returns-in-Ok-certificate_text c =
    text_made (development_view c.args.development.now) (proofs_in c.args.hints.now) c.in-Ok.certificate c.in-Ok-certificate_text.text c.in-Ok.ensures.accepted (c.in-Ok.ensures.unbudgeted refl) c.in-Ok-certificate_text.ensures

pub returns-in-Err : goal.returns-in-Err
returns-in-Err c = none_made (development_view c.args.development.now) (proofs_in c.args.hints.now) c.in-Err.fault (c.in-Err.ensures.unbudgeted refl)
