use Rattle.std.proofs.Common.{◌≡◌, ◌++◌, drop}
use Rattle.lc_sexp.specs.Trees.{row}
use Rattle.lc_sexp.specs.Entries.{entries_of_all}
use Rattle.lc_sexp.specs.Built.{entries_in}
use Rattle.lc_sexp.proofs.sexp.put_all.Given as goal

abbrev pub invariant-loop-sexp : goal.invariant-loop-sexp
invariant-loop-sexp l = entries_in l.built ++ entries_of_all (row (drop l.sexp-index l.sexps)) ≡ entries_in l.fn.built ++ entries_of_all (row l.sexps)
