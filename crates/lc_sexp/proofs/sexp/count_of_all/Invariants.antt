use Rattle.std.proofs.Common.{◌≡◌, ◌+◌, drop}
use Rattle.lc_sexp.specs.Trees.{row, item_count_of_all}
use Rattle.lc_sexp.proofs.sexp.count_of_all.Given as goal

abbrev pub invariant-loop-sexp : goal.invariant-loop-sexp
invariant-loop-sexp l = l.count + item_count_of_all (row (drop l.sexp-index l.sexps)) ≡ item_count_of_all (row l.sexps)
