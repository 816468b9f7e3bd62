use Rattle.std.proofs.Common.{subst, sym, ◌∙◌}
use Rattle.lc_hist.specs.JsonItems.{AreTokensOf}
use Rattle.lc_hist.proofs.JsonRead.{fits_data, fits_read, misfit_not_read}
use Rattle.lc_hist.proofs.document.root.Goals as goal

pub invariant_of-result : goal.invariant_of-result
invariant_of-result c = fits_data c.root-element.result c.root-element.ensures.value (λ j begins. sym c.if-fits.true ∙ c.fits.ensures j begins)

pub returns-then-fits : goal.returns-then-fits
returns-then-fits c bytes are =
    fits_read bytes c.root-element.result (subst (AreTokensOf bytes) (sym c.root-element.ensures.same) are) (λ j begins. sym c.if-fits.true ∙ c.fits.ensures j begins)

pub returns-else-fits : goal.returns-else-fits
returns-else-fits c bytes are =
    misfit_not_read bytes c.root-element.result (subst (AreTokensOf bytes) (sym c.root-element.ensures.same) are) (λ j begins. sym c.if-fits.false ∙ c.fits.ensures j begins)
