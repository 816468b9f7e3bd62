use Rattle.std.proofs.Common.{Ok, true, false, sym, subst}
use Rattle.lc_outline.specs.DevelopmentView.{development_view}
use Rattle.lc_cond.specs.Conditions.{conditions}
use Rattle.lc_check.proofs.Stepping.{none_if, untold_in_turn, told_so, certain_last, missing_at_last, all_in_turn}
use Rattle.lc_check.proofs.Walking.{went_on}
use Rattle.lc_check.specs.Answers.{CountsAll}
use Rattle.lc_check.specs.Walking.{IsAdvanced}
use Rattle.lc_check.proofs.progress.Progress.answer.Goals as goal

pub returns-in-Some : goal.returns-in-Some
returns-in-Some g c = λ taken h rises.
    let d = development_view c.args.development.now in
    certain_last d taken c.in-Some.refusal (told_so d taken c.args.self.now c.in-Some.refusal c.in-Some.is h) rises

pub report_missing-requires-clause-known : goal.report_missing-requires-clause-known
report_missing-requires-clause-known g c =
    let d = development_view c.args.development.now in
    let old = c.args.self.now in
    let new = c.advance.new.self in
    let here : IsAdvanced d old.walk new true = subst (IsAdvanced d old.walk new) c.if-branch.true c.in_ok-advance.ensures in
    here.0.known (untold_in_turn d c.requires.0 old (none_if old.told c.in_default.not-Some) c.requires.1).known

pub report_missing-requires-clause-stands : goal.report_missing-requires-clause-stands
report_missing-requires-clause-stands g c =
    let here : IsAdvanced (development_view c.args.development.now) c.args.self.now.walk c.advance.new.self true =
    subst (IsAdvanced (development_view c.args.development.now) c.args.self.now.walk c.advance.new.self) c.if-branch.true c.in_ok-advance.ensures in
    here.1

pub returns-then-branch : goal.returns-then-branch
returns-then-branch g c = λ taken h rises.
    let d = development_view c.args.development.now in
    let old = c.args.self.now in
    let new = c.advance.new.self in
    let here : IsAdvanced d old.walk new true = subst (IsAdvanced d old.walk new) c.if-branch.true c.in_ok-advance.ensures in
    missing_at_last d taken new here.1 (went_on d taken old.walk new (untold_in_turn d taken old (none_if old.told c.in_default.not-Some) h) here.0)

pub returns : goal.returns
returns g c = λ taken h rises.
    let d = development_view c.args.development.now in
    let old = c.args.self.now in
    let new = c.advance.new.self in
    let here : IsAdvanced d old.walk new false = subst (IsAdvanced d old.walk new) c.if-branch.false c.in_ok-advance.ensures in
    subst (λ n. CountsAll taken (conditions d) (Ok n)) (sym here.1) (all_in_turn d taken old.walk (untold_in_turn d taken old (none_if old.told c.in_default.not-Some) h) here.0)
