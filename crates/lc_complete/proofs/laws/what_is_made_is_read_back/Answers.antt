use Rattle.lc_sexp.proofs.Atoms.{read_atoms}
use Rattle.lc_complete.proofs.Noted.{laid_within, made_says}
use Rattle.lc_complete.proofs.laws.what_is_made_is_read_back.Goals as goal

pub returns : goal.returns
returns c = λ file text D made small.
    made_says file text D made small
    (c.laid_out_reads_back.ensures made.forms (read_atoms made.spelled made.forms made.read) made.read.nesting (laid_within file text D made small))
