use Rattle.std.proofs.Common.{Option, ◌∙◌, subst, arith}
use Rattle.std.specs.Prelude.{Vec}
use Rattle.std.specs.declared.alloc.Global.{Global}
use Rattle.lc_outline.specs.DevelopmentView.{development_view}
use Rattle.lc_cond.specs.Stream.{IsNextPart, IsPart}
use Rattle.lc_cond.specs.declared.condition.Condition.{Condition}
use Rattle.lc_check.proofs.Walking.{due_in_part}
use Rattle.lc_check.proofs.walk.Walk.advance.Goals as goal

pub parts-preserved : goal.parts-preserved
parts-preserved c =
    let d = development_view c.args.development.now in
    let before = c.parts.self in
    let ts = c.next_part.new.terms in
    let items = c.in-Some.part.items in
    let next : IsPart d ts before.stream c.next_part.new.self items =
    subst (λ (o : Option (Vec Condition Global)). IsNextPart d ts before.stream c.next_part.new.self o) c.in-Some.is c.in_ok-part.ensures.next in
    let size = c.len.ensures in
    let test = c.parts-test.true in
    record {
      due = due_in_part d before ts items c.next_part.new.self (omega (arith, size, test)) next.left ∙ c.parts.invariant.due;
      known = λ h. next.are;
      next = c.parts.invariant.next;
    }
