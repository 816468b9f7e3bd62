use Rattle.std.proofs.Common.{drop, sym}
use Rattle.std.proofs.lemmas.List.{take-append-drop}
use Rattle.lc_sexp.proofs.machine.Machine.within_limit.Goals as goal

pub returns-clause-front : goal.returns-clause-front
returns-clause-front c = (drop c.min.result c.args.bytes.now, sym (take-append-drop c.min.result c.args.bytes.now))
