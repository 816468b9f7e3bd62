use Rattle.std.proofs.Common.{◌≡◌}
use Rattle.lc_reading.proofs.Fine.{of_fine}
use Rattle.lc_outline_print.specs.Instructions.{instruction_tree}
use Rattle.lc_text_laws.proofs.Instructions.{instruction_stood}
use Rattle.lc_text_laws.proofs.laws.instructions_are_printed_as_they_stood.Goals as goal

pub returns : goal.returns
returns c = λ names code by object n t i all e. of_fine (λ i. instruction_tree object by i ≡ t) _ i (instruction_stood names code by object all n t) e
