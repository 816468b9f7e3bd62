use Rattle.std.proofs.Common.{subst, Option}
use Rattle.std.specs.Prelude.{Vec}
use Rattle.std.specs.declared.alloc.Global.{Global}
use Rattle.lc_cond.specs.Stream.{IsNextPart, IsPart, IsEnd}
use Rattle.lc_cond.specs.declared.condition.Condition.{Condition}
use Rattle.lc_outline.specs.DevelopmentView.{development_view}
use Rattle.lc_cond_text.specs.ConditionText.{spelled}
use Rattle.lc_cond_text.proofs.LeftOver.{part_made, only_count_left}
use Rattle.lc_cond_text.proofs.Recalled.{recalls_kept}
use Rattle.lc_cond_text.proofs.lines.make_part.Goals as goal

pub returns-in-Some : goal.returns-in-Some
returns-in-Some c =
    let d = development_view c.args.development.now in
    let l = c.args.left.now in
    let ts = c.next_part.new.terms in
    let is : IsPart d ts l.stream c.next_part.new.self c.in-Some.part.items = subst (λ (o : Option (Vec Condition Global)). IsNextPart d ts l.stream c.next_part.new.self o) c.in-Some.is c.in_ok-part.ensures.next in
    let recalls = recalls_kept (spelled d) c.renew.new.terms ts c.renew.new.texts (c.renew.ensures (spelled d) c.requires.left.recalls) c.in_ok-part.ensures.kept in
    part_made d l.stream c.next_part.new.self l.terms ts l.texts c.renew.new.texts l.most _ l.part c.in-Some.part l.written l.number c.args.piece.now.items c.requires.none is recalls

pub returns-in_ok-push_total-in-None : goal.returns-in_ok-push_total-in-None
returns-in_ok-push_total-in-None c =
    let d = development_view c.args.development.now in
    let l = c.args.left.now in
    let is : IsEnd d l.stream c.next_part.new.self = subst (λ (o : Option (Vec Condition Global)). IsNextPart d c.next_part.new.terms l.stream c.next_part.new.self o) c.in-None.is c.in_ok-part.ensures.next in
    only_count_left d l.stream c.next_part.new.self l.terms l.texts l.most l.part l.written l.number c.args.piece.now.items c.push_total.new.piece.items c.requires.none is c.in_ok-push_total-in-None.ensures
