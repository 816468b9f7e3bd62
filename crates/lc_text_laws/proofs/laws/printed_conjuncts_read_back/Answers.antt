use Rattle.std.proofs.Common.{◌≡◌}
use Rattle.lc_reading.proofs.Fine.{of_fine}
use Rattle.lc_reading.specs.Readings.{fine}
use Rattle.lc_rider_text.specs.Conjuncts.{conjunct_reading}
use Rattle.lc_text_laws.proofs.Alike.{Alike, Readable}
use Rattle.lc_text_laws.proofs.Sides.{conjunct_with, conjunct_again}
use Rattle.lc_text_laws.proofs.laws.printed_conjuncts_read_back.Goals as goal

pub returns : goal.returns
returns c = λ names by n t x spelled free small e.
    (of_fine (λ c. Alike Readable (conjunct_with names by spelled free c) t × (conjunct_reading names n (conjunct_with names by spelled free c) ≡ fine c)) _ x (conjunct_again names by spelled free n t small) e).1
