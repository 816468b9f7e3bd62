use Rattle.lc_layout.proofs.Back.{laid_reads}
use Rattle.lc_layout.proofs.laws.laid_out_reads_back.Goals as goal

pub returns : goal.returns
returns c = laid_reads
