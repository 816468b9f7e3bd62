use Rattle.lc_hist.proofs.JsonFound.{Passed, next_item_passed, none_left}
use Rattle.lc_hist.proofs.document.Items.next.Goals.{In_ok-element}
use Rattle.lc_hist.proofs.document.Items.next.Goals as goal

pub returns-in_err-element-clause-value : goal.returns-in_err-element-clause-value
returns-in_err-element-clause-value c =
    rw (c.from_residual.ensures, ← c.self.view_is) (none_left c.self.inside.items c.next.new.self c.self.invariant c.in_err-element.ensures.value)

went_on : (c : In_ok-element) → Passed c.self.inside.items c.in_ok-element.element c.next.new.self
went_on c = next_item_passed c.self.inside.items c.in_ok-element.element c.next.new.self c.self.invariant c.in_ok-element.ensures.value

pub invariant_of-result : goal.invariant_of-result
invariant_of-result c = (went_on c).0

pub invariant_of-self-2 : goal.invariant_of-self-2
invariant_of-self-2 c = (went_on c).1

pub returns-clause-value : goal.returns-clause-value
returns-clause-value c = rw (← c.self.view_is) (went_on c).2
