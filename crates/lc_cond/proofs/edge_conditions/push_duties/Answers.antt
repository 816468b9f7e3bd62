use Rattle.std.proofs.Common.{get_or, refl, subst, ◌∙◌, arith}
use Rattle.lc_rider.specs.declared.duty.Duty.{Duty}
use Rattle.lc_rider.specs.declared.duty.Owing.TheVariants.{Pending}
use Rattle.lc_cond.specs.Heads.{MakesOne}
use Rattle.lc_cond.specs.Scenes.{duty_head}
use Rattle.lc_cond.specs.declared.condition.Which.TheVariants.{Numbered}
use Rattle.lc_cond.proofs.Scening.{duties_none, duties_more, duties_all, known_within, known_enough, known_first}
use Rattle.lc_cond.proofs.edge_conditions.push_duties.Goals as goal

-- after the last
abbrev behind : Duty
behind = record { kind = Pending; rider = 0; known = 0; goal = record { 0 = 0 } }

pub loop-duty-init : goal.loop-duty-init
loop-duty-init c = duties_none c.args.scene.now c.args.number c.args.facts.now c.marks-duty-items.result.now c.args.conditions.now.items

pub overflow_add-before : goal.overflow_add-before
overflow_add-before c =
    let these = c.as_slice.result.now in
    let within = known_within c.args.facts.now c.args.path.now c.marks-duty-items.result.now c.loop-duty.duty-index behind c.loop-duty-test.true c.requires.trees c.marks-duty-items.ensures.known in
    let most = known_enough c.args.scene.now.hypotheses.items c.args.facts.now these these _ refl (c.as_slice.ensures ∙ c.requires.all) within in
    omega arith

pub first-requires : goal.first-requires
first-requires c =
    known_enough c.args.scene.now.hypotheses.items c.args.facts.now c.as_slice.result.now c.args.known.now _ c.as_slice.ensures c.requires.all
    (known_within c.args.facts.now c.args.path.now c.marks-duty-items.result.now c.loop-duty.duty-index behind c.loop-duty-test.true c.requires.trees c.marks-duty-items.ensures.known)

pub loop-duty-preserved : goal.loop-duty-preserved
loop-duty-preserved c =
    let s = c.args.scene.now in
    let d = get_or c.marks-duty-items.result.now c.loop-duty.duty-index behind in
    let now = c.loop-duty.conditions.items in
    let new = c.push_duty.new.conditions.items in
    let first = known_first s.hypotheses.items c.args.facts.now c.as_slice.result.now c.args.known.now d.known c.as_slice.ensures c.requires.all in
    duties_more s c.args.number c.args.facts.now c.marks-duty-items.result.now c.loop-duty.duty-index behind c.args.conditions.now.items now new c.loop-duty-test.true c.loop-duty.invariant
    (subst (λ ks. MakesOne (duty_head s c.args.number d) (Numbered d.rider) ks d.goal now new) (c.in_ok-known.ensures ∙ first) c.in_ok-push_duty.ensures)

pub returns : goal.returns
returns c =
    duties_all c.args.scene.now c.args.number c.args.facts.now c.marks-duty-items.result.now c.args.path.now c.loop-duty.duty-index c.args.conditions.now.items c.loop-duty.conditions.items c.loop-duty-test.false
    c.requires.trees c.requires.are c.marks-duty-items.ensures.duties c.marks-duty-items.ensures.goals c.loop-duty.invariant
