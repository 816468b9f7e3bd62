use Rattle.lincheck.proofs.LaidOut.{lines_say, lines_stay}
use Rattle.lincheck.proofs.laws.a_layout_stays.Goals as goal

pub returns-clause-says : goal.returns-clause-says
returns-clause-says c = lines_say c.laid_out_reads_back.ensures

pub returns-clause-again : goal.returns-clause-again
returns-clause-again c = lines_stay c.laid_out_reads_back.ensures
