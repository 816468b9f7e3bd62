use Rattle.std.proofs.Common.{Err, ap, ◌∙◌, subst}
use Rattle.lc_outline.specs.DevelopmentView.{development_view}
use Rattle.lc_hints.specs.Files.{IsAnswerTo}
use Rattle.lc_lib.proofs.Made.{hints_read, hints_unread}
use Rattle.lc_lib.proofs.certifying.read_hints.Goals as goal

pub returns-in-Ok : goal.returns-in-Ok
returns-in-Ok c = hints_read c.args.lib (development_view c.args.development.now) c.hints.result.now c.in-Ok.hints c.hints.ensures c.in-Ok.ensures.answer

pub returns-in-Err-Refused : goal.returns-in-Err-Refused
returns-in-Err-Refused c =
    let D = development_view c.args.development.now in
    let bytes = c.hints.result.now in
    let refused = subst (IsAnswerTo D bytes) (c.in-Err-Refused.is ∙ ap Err c.in-Err-Refused.field-0-is) c.hints_of.ensures.answer in
    hints_unread c.args.lib D bytes c.in-Err-Refused.field-0-0 c.hints.ensures refused
