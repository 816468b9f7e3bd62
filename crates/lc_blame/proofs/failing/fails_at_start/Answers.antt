use Rattle.std.proofs.Common.{ℕ, ◌<◌, ◌≤◌, length, sym, ap, subst, ◌∙◌, arith}
use Rattle.std.proofs.lemmas.List.{length-map}
use Rattle.lc_cond.specs.ConditionView.{condition_in}
use Rattle.lc_machine.specs.View.{client_of}
use Rattle.lc_sound.specs.Claims.{own}
use Rattle.lc_acting.specs.Attempts.{development_of, world_of, event_of}
use Rattle.lc_blame.specs.Blame.{FailsWith}
use Rattle.lc_blame.proofs.Among.{start_found, start_more, start_none}
use Rattle.lc_acting.proofs.Deciding.{so_if, not_if}
use Rattle.lc_blame.proofs.failing.fails_at_start.Goals as goal

pub loop-client-init : goal.loop-client-init
loop-client-init c = λ u lt h. absurd (omega (arith, lt))

pub returns-then-failed : goal.returns-then-failed
returns-then-failed c =
    let a = c.args.attempt.now in
    let w = world_of a in
    let k = condition_in c.args.asked.now.terms.now c.args.asked.now.condition.now in
    let vs = c.in_ok-env.env.values.items in
    let u = c.loop-client.client in
    let count = sym (length-map a.clients.now client_of) in
    start_found (development_of a) w a.client (event_of a) a.tried.now k u vs (subst (λ (n : ℕ). u < n) count c.loop-client-test.true) (c.in_ok-env.ensures ∙ ap (λ (n : ℕ). own n u) count)
    (so_if (FailsWith a.tried.now w.columns vs k) c.in_ok-failed.failed c.in_ok-failed.ensures c.if-failed.true)

pub loop-client-preserved : goal.loop-client-preserved
loop-client-preserved c =
    let a = c.args.attempt.now in
    let w = world_of a in
    let k = condition_in c.args.asked.now.terms.now c.args.asked.now.condition.now in
    let vs = c.in_ok-env.env.values.items in
    let u = c.loop-client.client in
    let count = sym (length-map a.clients.now client_of) in
    start_more (development_of a) w a.client (event_of a) a.tried.now k u vs (c.in_ok-env.ensures ∙ ap (λ (n : ℕ). own n u) count)
    (not_if (FailsWith a.tried.now w.columns vs k) c.in_ok-failed.failed c.in_ok-failed.ensures c.if-failed.false) c.loop-client.invariant

pub returns : goal.returns
returns c =
    let a = c.args.attempt.now in
    let w = world_of a in
    let k = condition_in c.args.asked.now.terms.now c.args.asked.now.condition.now in
    let count = sym (length-map a.clients.now client_of) in
    let past : length a.clients.now ≤ c.loop-client.client = omega (arith, c.loop-client-test.false) in
    start_none (development_of a) w a.client (event_of a) a.tried.now k c.loop-client.client (subst (λ (n : ℕ). n ≤ c.loop-client.client) count past) c.loop-client.invariant
