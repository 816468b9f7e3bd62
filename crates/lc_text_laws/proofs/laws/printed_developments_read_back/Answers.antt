use Rattle.lc_text_laws.proofs.Printed.{text_back}
use Rattle.lc_text_laws.proofs.laws.printed_developments_read_back.Goals as goal

pub returns : goal.returns
returns c = text_back
