use Rattle.std.proofs.Common.{◌≡◌}
use Rattle.std.specs.VecDeque.{deque_len}
use Rattle.lc_sexp.specs.Trees.{row}
use Rattle.lc_sexp.specs.TreeCode.{joined_rows}
use Rattle.lc_sexp.specs.Filling.{front_of, behind_of}
use Rattle.lc_sexp.proofs.filling.take_all_of.Given as goal

abbrev pub invariant-loop-sexp : goal.invariant-loop-sexp
invariant-loop-sexp l = record {
  taken : joined_rows (row l.sexps.items) (front_of l.form l.ready.items) ≡ front_of l.form l.fn.ready.items;
  behind : behind_of l.form l.ready.items ≡ behind_of l.form l.fn.ready.items;
}

abbrev pub decreases-loop-sexp : goal.decreases-loop-sexp
decreases-loop-sexp l = deque_len l.ready
