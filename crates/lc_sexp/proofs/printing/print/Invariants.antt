use Rattle.std.proofs.Common.{◌≡◌, drop, ◌++◌}
use Rattle.lc_sexp.specs.Trees.{row}
use Rattle.lc_sexp.specs.Printed.{printed}
use Rattle.lc_sexp.proofs.printing.print.Given as goal

abbrev pub invariant-loop-sexp : goal.invariant-loop-sexp
invariant-loop-sexp l = l.text.items ++ printed (row (drop l.sexp-index l.sexps)) ≡ printed (row l.sexps)
