use Rattle.lc_reading.proofs.Fine.{of_fine}
use Rattle.lc_text_laws.proofs.Riders.{listed_update_stood}
use Rattle.lc_text_laws.proofs.Sides.{EffectAgain, effect_again}
use Rattle.lc_text_laws.proofs.laws.printed_effects_read_back.Goals as goal

pub returns : goal.returns
returns c = λ known names by object actions m n f us p all free small e.
    let updates = listed_update_stood known names by all.spelled all.columns in
    let again = of_fine (EffectAgain known names by all.spelled free updates m f n us) _ p (effect_again known names by all.spelled free updates m f n us small) e in
    (again.1, again.2)
