use Rattle.std.proofs.Common.{refl, inr, ap, ◌++◌, ◌∙◌}
use Rattle.lincheck.proofs.complete.told_incomplete.Goals as goal

pub returns : goal.returns
returns c =
    inr (
      c.saturating_add-2.result,
      c.in_ok-extend_from_slice.ensures.items ∙ ap (λ l. c.args.made.text.items ++ l) (c.deref-2.ensures.value ∙ c.in_ok-line.ensures),
      refl,
    )
