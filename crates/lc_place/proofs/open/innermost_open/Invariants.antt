use Rattle.std.proofs.Common.{◌≡◌, drop}
use Rattle.lc_sexp.specs.Text.{uncommented}
use Rattle.lc_sexp.specs.Reads.{text_of}
use Rattle.lc_place.proofs.Depths.{opens, closes}
use Rattle.lc_place.proofs.Opened.{IsLastEven}
use Rattle.lc_place.proofs.open.innermost_open.Given as goal

abbrev pub invariant-loop-at : goal.invariant-loop-at
invariant-loop-at l = record {
  text : drop l.at (text_of l.bytes) ≡ uncommented l.in_comment (drop l.at l.bytes);
  opened : l.left.opened ≡ opens (drop l.at (text_of l.bytes));
  closed : l.left.closed ≡ closes (drop l.at (text_of l.bytes));
  last : IsLastEven (text_of l.bytes) l.at l.innermost;
}
