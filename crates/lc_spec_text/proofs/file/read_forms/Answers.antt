use Rattle.std.proofs.Common.{ap}
use Rattle.lc_spec_text.specs.Specifications.{first_reading}
use Rattle.lc_spec_text.proofs.file.read_forms.Goals as goal

pub returns-in_default : goal.returns-in_default
returns-in_default c = rw c.wrong.ensures (ap first_reading c.in_default.ensures.1)
