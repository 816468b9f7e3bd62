use Rattle.std.proofs.Common.{Err, ap, ◌∙◌, subst}
use Rattle.lc_outline.specs.DevelopmentView.{development_view}
use Rattle.lc_check.proofs.OneVerdict.{not_certified_and_refused}
use Rattle.lc_check.specs.VerdictView.{IsCountOn}
use Rattle.lc_find.proofs.reading_back.is_accepted.Goals as goal

pub returns-in-Ok : goal.returns-in-Ok
returns-in-Ok c = c.in-Ok.ensures.1

pub returns-in-Err-Refused : goal.returns-in-Err-Refused
returns-in-Err-Refused c = λ proven.
    let D = development_view c.args.development.now in
    let refused = subst (IsCountOn D c.args.text.now) (c.in-Err-Refused.is ∙ ap Err c.in-Err-Refused.field-0-is) c.proven_count.ensures in
    not_certified_and_refused D c.args.text.now c.in-Err-Refused.field-0-0 proven refused
