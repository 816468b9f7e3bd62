use Rattle.std.proofs.Common.{◌≡◌, List, ℤ, subst, rules}
use Rattle.std.specs.Prelude.{Option, Some, IfOk, option_map}
use Rattle.lc_cond.specs.Conditions.{ByAction}
use Rattle.lc_cond.specs.ConditionView.{condition_in}
use Rattle.lc_acting.specs.Attempts.{IsOnly, SaysSo, development_of, world_of, event_of}
use Rattle.lc_acting.specs.Acting.{IsActing}
use Rattle.lc_blame.specs.Blame.{FailsAmong, HasBeside, HaveNumbers}
use Rattle.lc_acting.specs.declared.acting.Acting.{Acting}
use Rattle.lc_blame.proofs.Among.{under_as}
use Rattle.lc_acting.proofs.Deciding.{says_ok}
use Rattle.lc_blame.proofs.failing.fails_under.Goals as goal

pub returns-else-acting-action : goal.returns-else-acting-action
returns-else-acting-action c =
    let a = c.args.attempt.now in
    let D = development_of a in
    let w = world_of a in
    let ev = event_of a in
    let k = condition_in c.args.asked.now.terms.now c.args.asked.now.condition.now in
    let point = option_map (λ p. p.0) c.args.point in
    let one = c.in-Some.acting in
    let r = c.fails_beside.result in
    let only : IsOnly (IsActing D w a.client ev ev) (Some one) = subst (λ (o : Option Acting). IsOnly (IsActing D w a.client ev ev) o) c.in-Some.is c.requires.acting in
    let same : one.action ≡ c.args.action = search rules in
    let both = under_as D w a.client ev a.tried.now k point c.args.action one only same in
    says_ok r (FailsAmong a.tried.now w.columns (HasBeside D w a.client ev point one.numbers.items) k) (FailsAmong a.tried.now w.columns (HaveNumbers D w a.client ev (ByAction c.args.action) point) k) (both.0) (both.1)
    (subst (λ (l : List ℤ). IfOk r (λ b. SaysSo b (FailsAmong a.tried.now w.columns (HasBeside D w a.client ev point l) k))) c.deref.ensures.value c.fails_beside.ensures)
