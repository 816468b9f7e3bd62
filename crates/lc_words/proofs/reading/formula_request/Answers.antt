use Rattle.std.proofs.Common.{None, Some, codes}
use Rattle.clap.specs.Words.{found_of}
use Rattle.lc_words.specs.Tasks.{CheckFormula}
use Rattle.lc_words.proofs.Found.{one_found}
use Rattle.lc_words.proofs.reading.formula_request.Goals as goal

pub returns-in_err-file : goal.returns-in_err-file
returns-in_err-file c = rw c.from_residual.ensures (one_found CheckFormula (codes "FILE") (found_of c.args.command.now) None c.in_err-file.ensures)

pub returns : goal.returns
returns c = one_found CheckFormula (codes "FILE") (found_of c.args.command.now) (Some c.in_ok-file.file.now) c.in_ok-file.ensures
