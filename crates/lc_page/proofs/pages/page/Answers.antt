use Rattle.std.proofs.Common.{◌≡◌, ◌++◌, ap, subst, ◌∙◌}
use Rattle.std.specs.Prelude.{IfOk}
use Rattle.lc_history.specs.Histories.{events_in}
use Rattle.lc_history.specs.View.{entries_view}
use Rattle.lc_seq.specs.SpecView.{operations_of}
use Rattle.lc_page.specs.Pages.{page_with}
use Rattle.lc_page.specs.Unmarked.{unmarked}
use Rattle.lc_page.proofs.Plainly.{page_said}
use Rattle.lc_page.proofs.pages.page.Goals as goal

pub returns : goal.returns
returns c =
    let json = c.in_ok-history_to_json.field-0.items in
    let said = c.in_ok-said_of.field-0.items in
    let first = c.extend_from_slice.new.self.items in
    let second = c.extend_from_slice-2.new.self.items in
    let whole = c.extend_from_slice-3.new.self.items in
    page_said (operations_of c.args.spec.now.operations.items) (events_in c.args.history.now) (entries_view c.args.order.now) said json c.new-data.result.items first second whole c.page_with.result c.new-data.ensures.items
    c.in_ok-extend_from_slice.ensures.items c.in_ok-history_to_json.ensures.text (c.in_ok-extend_from_slice-2.ensures.items ∙ ap (λ x. first ++ x) c.deref.ensures.value)
    (c.in_ok-extend_from_slice-3.ensures.items ∙ ap (λ x. second ++ x) c.deref-2.ensures.value)
    (subst (λ l. IfOk c.page_with.result (λ text. text.items ≡ page_with (unmarked l))) c.deref-3.ensures.value c.page_with.ensures)
