use Rattle.std.proofs.Common.{◌++◌, ap, ◌∙◌}
use Rattle.lc_outline.specs.DevelopmentView.{development_view}
use Rattle.lincheck.proofs.Running.{trace_is}
use Rattle.lincheck.proofs.run.trace_text.Goals as goal

pub returns : goal.returns
returns c =
    let heads = c.push_ends.new.text.items in
    trace_is (development_view c.args.development.now) c.args.clients c.args.ran.now c.len.result c.deref.result.now c.in_ok-text.text.items heads c.in_ok-lines.lines.items c.extend_from_slice.new.self.items
    c.in_ok-lines.ensures (c.len.ensures ∙ c.args.ran.now.log.order.ok.0) c.deref.ensures.value c.in_ok-text.ensures c.in_ok-push_ends.ensures
    (c.in_ok-extend_from_slice.ensures.items ∙ ap (λ x. heads ++ x) c.deref-2.ensures.value)
