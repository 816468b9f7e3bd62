use Rattle.std.proofs.Common.{◌≡◌, ℕ, suc, ◌+◌, ◌-◌, List, ◌++◌, sym, ap, subst, ◌∙◌, arith}
use Rattle.std.specs.Arc.{arc_value}
use Rattle.lc_check.specs.VerdictView.{development_in}
use Rattle.lc_check.specs.declared.verdict.Accepted.{Accepted}
use Rattle.lc_crew.specs.Ran.{IsRunOf}
use Rattle.lc_plan.specs.View.{plan_of}
use Rattle.lincheck.specs.Run.{TellsSeed, TellsSeeds}
use Rattle.lincheck.proofs.Running.{seed_told, seeds_more}
use Rattle.lincheck.proofs.run.seeds_text.Goals as goal

pub loop-seed-init : goal.loop-seed-init
loop-seed-init g c =
    let D = development_in (arc_value c.args.accepted) in
    let P = plan_of c.args.plan.now in
    record {
      from = omega arith;
      within = omega arith;
      tells = subst (λ n. TellsSeeds D P n c.args.first c.new-text.result.items) (let e : 0 ≡ c.args.first - c.args.first = omega arith in e) c.new-text.ensures.items;
    }

pub loop-seed-preserved : goal.loop-seed-preserved
loop-seed-preserved g c =
    let D = development_in (arc_value c.args.accepted) in
    let P = plan_of c.args.plan.now in
    let first = c.args.first in
    let seed = c.loop-seed.seed in
    let text = c.loop-seed.text.items in
    let so = c.loop-seed.invariant in
    let ran = c.in_ok-ran.ran in
    let line = c.in_ok-line.line.items in
    let runs = subst (λ (a : Accepted). IsRunOf (development_in a) P.clients P.phases ran) c.in_ok-ours.ensures c.in_ok-ran.ensures in
    let told : TellsSeed D P seed line = seed_told D P seed c.len.result ran c.deref.result.now line runs (c.len.ensures ∙ ran.log.order.ok.0) c.deref.ensures.value c.in_ok-line.ensures in
    let here : seed ≡ first + (seed - first) = omega (arith, so.from) in
    let next : suc (seed - first) ≡ (seed + 1) - first = omega (arith, so.from) in
    let more = seeds_more D P (seed - first) first text line so.tells (subst (λ k. TellsSeed D P k line) here told) in
    let grown = c.in_ok-extend_from_slice.ensures.items ∙ ap (λ x. text ++ x) c.deref-in-loop-seed.ensures.value in
    record {
      from = omega (arith, so.from);
      within = omega (arith, so.from, c.loop-seed-test.true);
      tells = subst (λ (t : List ℕ). TellsSeeds D P ((seed + 1) - first) first t) (sym grown) (subst (λ n. TellsSeeds D P n first (text ++ line)) next more);
    }

pub returns : goal.returns
returns g c =
    let so = c.loop-seed.invariant in
    let all : c.loop-seed.seed - c.args.first ≡ c.args.end - c.args.first = omega (arith, so.from, so.within, c.loop-seed-test.false) in
    subst (λ n. TellsSeeds (development_in (arc_value c.args.accepted)) (plan_of c.args.plan.now) n c.args.first c.loop-seed.text.items) all so.tells
