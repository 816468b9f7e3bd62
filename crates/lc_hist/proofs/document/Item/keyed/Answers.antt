use Rattle.std.proofs.Common.{None, subst}
use Rattle.lc_hist.proofs.JsonParts.{Left, no_object, all_left, value_next, events_next, order_next, third_next, all_found}
use Rattle.lc_hist.proofs.document.Item.keyed.Goals as goal

pub returns-in_err-members : goal.returns-in_err-members
returns-in_err-members c = rw (c.from_residual.ensures, ← c.self.view_is) (no_object c.self.inside.element c.self.invariant c.in_err-members.ensures)

pub members-init : goal.members-init
members-init c = subst (Left c.in_ok-members.members None None) c.self.view_is (all_left c.self.inside.element c.in_ok-members.members c.self.invariant c.in_ok-members.ensures)

pub invariant_of-events : goal.invariant_of-events
invariant_of-events c =
    value_next c.members.members c.in-Some.element c.next.new.self c.args.self.now c.in-Some.key.now c.members.events c.members.order c.members.invariant c.in-Some.ensures.value

pub members-preserved-then-str_eq : goal.members-preserved-then-str_eq
members-preserved-then-str_eq c =
    events_next c.members.members c.in-Some.element c.next.new.self c.args.self.now c.in-Some.key.now c.members.events c.members.order c.members.invariant c.in-Some.ensures.value c.in-events.is

pub invariant_of-order : goal.invariant_of-order
invariant_of-order c =
    value_next c.members.members c.in-Some.element c.next.new.self c.args.self.now c.in-Some.key.now c.members.events c.members.order c.members.invariant c.in-Some.ensures.value

pub members-preserved : goal.members-preserved
members-preserved c =
    order_next c.members.members c.in-Some.element c.next.new.self c.args.self.now c.in-Some.key.now c.members.events c.members.order c.members.invariant c.in-Some.ensures.value c.in-order.is

pub returns-in_default-key : goal.returns-in_default-key
returns-in_default-key c =
    third_next c.members.members c.in-Some.element c.next.new.self c.args.self.now c.in-Some.key.now c.members.events c.members.order c.members.invariant c.in-Some.ensures.value
    c.in_default-key.not-events c.in_default-key.not-order

pub returns : goal.returns
returns c = all_found c.members.members c.next.new.self c.args.self.now c.members.events c.members.order c.members.invariant c.in_default.ensures.value
