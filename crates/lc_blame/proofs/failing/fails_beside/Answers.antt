use Rattle.std.proofs.Common.{ℕ, ◌≤◌, length, sym, subst, arith}
use Rattle.std.specs.Prelude.{option_map}
use Rattle.std.proofs.lemmas.List.{length-map}
use Rattle.lc_cond.specs.ConditionView.{condition_in}
use Rattle.lc_machine.specs.View.{client_of}
use Rattle.lc_acting.specs.Attempts.{development_of, world_of, event_of}
use Rattle.lc_blame.proofs.Among.{FailsOf, beside_found, beside_more, beside_none}
use Rattle.lc_acting.proofs.Deciding.{so_if, not_if}
use Rattle.lc_acting.proofs.Viewed.{seen_at}
use Rattle.lc_blame.proofs.failing.fails_beside.Goals as goal

pub loop-i-init : goal.loop-i-init
loop-i-init c = λ u client lt apart is there h. absurd (omega (arith, lt))

pub returns-then-failed : goal.returns-then-failed
returns-then-failed c =
    let a = c.args.attempt.now in
    let D = development_of a in
    let w = world_of a in
    let k = condition_in c.args.asked.now.terms.now c.args.asked.now.condition.now in
    let point = option_map (λ p. p.0) c.args.point in
    let x = c.index-clients-i.result in
    let is = seen_at client_of a.clients.now c.loop-i.i x c.loop-i-test.true c.index-clients-i.is in
    beside_found D w a.client (event_of a) a.tried.now k point c.args.given.now c.loop-i.i (client_of x) is
    (so_if (FailsOf D w a.client (event_of a) a.tried.now k point c.args.given.now c.loop-i.i (client_of x)) c.in_ok-failed.failed c.in_ok-failed.ensures c.if-failed.true)

pub loop-i-preserved : goal.loop-i-preserved
loop-i-preserved c =
    let a = c.args.attempt.now in
    let D = development_of a in
    let w = world_of a in
    let k = condition_in c.args.asked.now.terms.now c.args.asked.now.condition.now in
    let point = option_map (λ p. p.0) c.args.point in
    let x = c.index-clients-i.result in
    let is = seen_at client_of a.clients.now c.loop-i.i x c.loop-i-test.true c.index-clients-i.is in
    beside_more D w a.client (event_of a) a.tried.now k point c.args.given.now c.loop-i.i (client_of x) is
    (not_if (FailsOf D w a.client (event_of a) a.tried.now k point c.args.given.now c.loop-i.i (client_of x)) c.in_ok-failed.failed c.in_ok-failed.ensures c.if-failed.false) c.loop-i.invariant

pub returns : goal.returns
returns c =
    let a = c.args.attempt.now in
    let k = condition_in c.args.asked.now.terms.now c.args.asked.now.condition.now in
    let past : length a.clients.now ≤ c.loop-i.i = omega (arith, c.loop-i-test.false) in
    beside_none (development_of a) (world_of a) a.client (event_of a) a.tried.now k (option_map (λ p. p.0) c.args.point) c.args.given.now c.loop-i.i
    (subst (λ (n : ℕ). n ≤ c.loop-i.i) (sym (length-map a.clients.now client_of)) past) c.loop-i.invariant
