use Rattle.std.proofs.Common.{◌≡◌}
use Rattle.lc_reading.proofs.Fine.{of_fine}
use Rattle.lc_outline_print.specs.Specifications.{specification_tree}
use Rattle.lc_text_laws.proofs.Specifications.{StandFirst, names_of, specification_stood}
use Rattle.lc_text_laws.proofs.laws.specifications_are_printed_as_they_stood.Goals as goal

pub returns : goal.returns
returns c = λ others names rest n t s e first. of_fine (λ s. StandFirst (names_of s.columns) names → specification_tree names s ≡ t) _ s (specification_stood others names n t) e (rest, first)
