use Rattle.lincheck.proofs.LaidOut.{one_layout}
use Rattle.lincheck.proofs.laws.a_file_has_one_layout.Goals as goal

pub returns : goal.returns
returns c = one_layout
