use Rattle.std.proofs.Common.{Option, subst}
use Rattle.std.specs.Prelude.{Vec}
use Rattle.std.specs.declared.alloc.Global.{Global}
use Rattle.lc_table.proofs.Later.{kept_on, keeps_itself}
use Rattle.lc_outline.specs.DevelopmentView.{development_view}
use Rattle.lc_cond.specs.Stream.{IsNextPart, IsPart, IsEnd}
use Rattle.lc_cond.specs.declared.condition.Condition.{Condition}
use Rattle.lc_cond.proofs.Drained.{drained_none, drained_more, drained_all}
use Rattle.lc_cond.proofs.Streamed.{no_part_ends}
use Rattle.lc_cond.proofs.stream.conditions.Goals as goal

pub returns-in_default-clause-are : goal.returns-in_default-clause-are
returns-in_default-clause-are c =
    let D = development_view c.args.development.now in
    let before = c.parts.stream in
    let new = c.next_part.new.terms in
    let none : IsEnd D before c.next_part.new.self = no_part_ends D new before c.next_part.new.self c.in_ok-part.field-0 c.in_default.not-Some c.in_ok-part.ensures.next in
    (drained_all D c.parts.terms new c.parts.list.items before c.parts.invariant.1 c.in_ok-part.ensures.kept none.nothing).0

pub returns-in_default-clause-list : goal.returns-in_default-clause-list
returns-in_default-clause-list c =
    let D = development_view c.args.development.now in
    let before = c.parts.stream in
    let new = c.next_part.new.terms in
    let none : IsEnd D before c.next_part.new.self = no_part_ends D new before c.next_part.new.self c.in_ok-part.field-0 c.in_default.not-Some c.in_ok-part.ensures.next in
    (drained_all D c.parts.terms new c.parts.list.items before c.parts.invariant.1 c.in_ok-part.ensures.kept none.nothing).1

pub parts-init : goal.parts-init
parts-init c =
    let D = development_view c.args.development.now in (
      keeps_itself c.args.terms.now,
      drained_none D c.args.terms.now c.new-list.result.items c.in_ok-stream.stream c.new-list.ensures.items c.in_ok-stream.ensures.left,
    )

pub parts-preserved : goal.parts-preserved
parts-preserved c =
    let D = development_view c.args.development.now in
    let old = c.parts.terms in
    let new = c.next_part.new.terms in
    let kept = c.in_ok-part.ensures.kept in
    let items = c.in-Some.part.items in
    let next : IsPart D new c.parts.stream c.next_part.new.self items =
    subst (λ (o : Option (Vec Condition Global)). IsNextPart D new c.parts.stream c.next_part.new.self o) c.in-Some.is c.in_ok-part.ensures.next in (
      kept_on c.args.terms.now old new c.parts.invariant.0 kept,
      drained_more D old new c.parts.list.items c.append.new.self.items items c.parts.stream c.next_part.new.self c.parts.invariant.1 kept next c.in_ok-append.ensures.items,
    )
