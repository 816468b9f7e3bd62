use Rattle.std.proofs.Common.{ap, ◌∙◌, sym, slice_get}
use Rattle.lc_cond_text.proofs.Recalled.{found_before}
use Rattle.lc_cond_text.proofs.texts.make_room.Goals as goal

pub loop-places-preserved : goal.loop-places-preserved
loop-places-preserved c = λ k p e. c.loop-places.invariant k p (found_before c.loop-places.places.items k p (sym (ap (λ l. slice_get l k) c.in_ok-push.ensures.items) ∙ e))
