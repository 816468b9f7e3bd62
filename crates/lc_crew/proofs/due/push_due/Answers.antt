use Rattle.std.proofs.Common.{refl, ap, ◌∙◌}
use Rattle.lc_crew.specs.Turns.{dues_of}
use Rattle.lc_crew.proofs.Turns.{due-more, due-none, made-never}
use Rattle.lc_crew.proofs.due.push_due.Goals as goal

pub returns-in_default : goal.returns-in_default
returns-in_default c =
    due-none c.args.calls.now (dues_of c.args.dues.now.items) (made-never c.checked_sub.result c.args.calls.now.count c.in_default.not-Some c.checked_sub.ensures)

pub returns : goal.returns
returns c =
    ap dues_of c.in_ok-push.ensures.items ∙ due-more c.checked_sub.result c.args.calls.now c.args.dues.now.items _ c.in-Some.is refl c.checked_sub.ensures
