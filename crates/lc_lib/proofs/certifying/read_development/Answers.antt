use Rattle.std.proofs.Common.{Err, ap, ◌∙◌, subst}
use Rattle.lc_outline.specs.DevelopmentView.{development_view}
use Rattle.lc_outline_text.specs.Developments.{file_reading}
use Rattle.lc_reading.specs.Files.{IsAnswerTo}
use Rattle.lc_lib.proofs.Made.{development_read, development_unread}
use Rattle.lc_lib.proofs.certifying.read_development.Goals as goal

pub returns-in-Ok : goal.returns-in-Ok
returns-in-Ok c = development_read c.args.lib c.development.result.now c.in-Ok.development c.development.ensures c.in-Ok.ensures

pub returns-in-Err-Refused : goal.returns-in-Err-Refused
returns-in-Err-Refused c =
    let bytes = c.development.result.now in
    let refused = subst (IsAnswerTo development_view file_reading bytes) (c.in-Err-Refused.is ∙ ap Err c.in-Err-Refused.field-0-is) c.development_of.ensures in
    development_unread c.args.lib bytes c.in-Err-Refused.field-0-0 c.development.ensures refused
