use Rattle.std.proofs.Common.{◌≡◌, List, ℤ, pos, ◌∷◌, ◌++◌, subst, rules}
use Rattle.std.specs.Prelude.{IfOk, option_map}
use Rattle.std.proofs.lemmas.List.{length-map}
use Rattle.lc_cond.specs.ConditionView.{condition_in}
use Rattle.lc_machine.specs.View.{client_of}
use Rattle.lc_stages.specs.Stages.{numbers_at}
use Rattle.lc_acting.specs.Attempts.{SaysSo, development_of, world_of, event_of}
use Rattle.lc_blame.specs.Blame.{FailsWith, point_of}
use Rattle.lc_blame.proofs.Among.{FailsOf}
use Rattle.lc_acting.proofs.Deciding.{says_ok}
use Rattle.lc_blame.proofs.failing.fails_of.Goals as goal

pub returns : goal.returns
returns c =
    let a = c.args.attempt.now in
    let D = development_of a in
    let w = world_of a in
    let k = condition_in c.args.asked.now.terms.now c.args.asked.now.condition.now in
    let x = client_of c.args.client.now in
    let point = option_map (λ p. p.0) c.args.point in
    let r = c.fails_with.result in
    let ns = numbers_at D w c.args.number x ++ pos a.client ∷ c.args.given.now in
    let numbers : c.in_ok-env.env.values.items ≡ ns = c.in_ok-env.ensures D w (length-map a.clients.now client_of) in
    let apart : c.args.number ≡ a.client → ⊥ = search rules in
    let there : point_of x ≡ point = c.if-not-stands.ensures in
    says_ok r (FailsWith a.tried.now w.columns ns k) (FailsOf D w a.client (event_of a) a.tried.now k point c.args.given.now c.args.number x) (λ h. (apart, there, h)) (λ h. h.2)
    (subst (λ (l : List ℤ). IfOk r (λ b. SaysSo b (FailsWith a.tried.now w.columns l k))) numbers c.fails_with.ensures)
