use Rattle.std.proofs.Common.{sym, ◌∙◌, arith}
use Rattle.lc_object_text.proofs.SectionWalk.{passed_form, stopped_form, size_after_item}
use Rattle.lc_object_text.proofs.section_finding.behind_forms.Goals as goal

pub returns-then-not-is_at_form-clause-items : goal.returns-then-not-is_at_form-clause-items
returns-then-not-is_at_form-clause-items c =
    stopped_form c.args.word.now c.lists.rest (sym c.is_at_form.ensures ∙ c.if-not-is_at_form.true) ∙ sym c.lists.invariant.items

pub lists-smaller : goal.lists-smaller
lists-smaller c = size_after_item c.lists.rest c.item.new.self c.in-Ok.field-0 c.in-Ok.ensures

pub lists-preserved : goal.lists-preserved
lists-preserved c = record {
  items = c.lists.invariant.items ∙ passed_form c.args.word.now c.lists.rest c.item.new.self c.in-Ok.field-0 (sym c.is_at_form.ensures ∙ c.if-not-is_at_form.false) c.in-Ok.ensures;
  smaller = omega (arith, size_after_item c.lists.rest c.item.new.self c.in-Ok.field-0 c.in-Ok.ensures, c.lists.invariant.smaller);
}
