use Rattle.std.proofs.Common.{arith}
use Rattle.lc_sexp.proofs.Classes.{class_at}
use Rattle.lc_sexp.proofs.class.classify.Goals as goal

pub returns : goal.returns
returns c = class_at c.args.byte (omega arith)
