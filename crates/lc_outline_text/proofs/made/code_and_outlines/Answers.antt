use Rattle.std.proofs.Common.{◌++◌, map, ap, ◌∙◌}
use Rattle.lc_object.specs.View.{names_of}
use Rattle.lc_outline.specs.PartsView.{outline_of}
use Rattle.lc_outline_text.proofs.MadeBodies.{code_more, outlines_more, same_code}
use Rattle.lc_outline_text.specs.Views.{outlined_of}
use Rattle.lc_outline_text.proofs.made.code_and_outlines.Goals as goal

pub loop-body-preserved : goal.loop-body-preserved
loop-body-preserved c =
    let body = c.in-Some.body in
    let old = c.loop-body in
    let parts = c.into_parts-locals.ensures in
    let points = c.in_ok-points.ensures.points ∙ ap (λ p. map (λ q. q.0) (map outlined_of p.1.items)) parts in
    let outlines = c.in_ok-points.ensures.outlines ∙ ap (λ p. map outline_of old.outlines.items ++ map (λ q. q.1) (map outlined_of p.1.items)) parts in
    record {
      code = code_more old.code.items c.push.new.self.items old.yielded body _ c.in_ok-push.ensures.items old.invariant.code (same_code _ _ _ _ (ap (λ p. names_of p.0.items) parts) points);
      outlines = outlines_more (map outline_of old.outlines.items) (map outline_of c.in_ok-points.more.items) old.yielded body old.invariant.outlines outlines;
    }
