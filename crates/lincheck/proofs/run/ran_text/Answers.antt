use Rattle.std.proofs.Common.{◌++◌, ap, ◌∙◌}
use Rattle.lc_outline.specs.DevelopmentView.{development_view, parts_view}
use Rattle.lincheck.proofs.Running.{ran_text_is}
use Rattle.lincheck.proofs.run.ran_text.Goals as goal

pub returns : goal.returns
returns c =
    let lines = c.push_ends.new.text.items in
    ran_text_is (development_view c.args.development.now) (parts_view c.parts.result.now) c.args.ran.now c.len.result c.deref.result.now c.deref-2.result.now c.in_ok-text.text.items lines
    c.in_ok-history.history.items c.extend_from_slice.new.self.items c.push.new.self.items c.parts.ensures.shown (c.len.ensures ∙ c.args.ran.now.log.order.ok.0) c.deref.ensures.value c.deref-2.ensures.value c.in_ok-text.ensures
    c.in_ok-push_ends.ensures c.in_ok-history.ensures.text (c.in_ok-extend_from_slice.ensures.items ∙ ap (λ x. lines ++ x) c.deref-3.ensures.value) c.in_ok-push.ensures.items
