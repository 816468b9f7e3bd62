use Rattle.std.proofs.Common.{◌≡◌, take, drop}
use Rattle.lc_sexp.specs.Text.{uncommented}
use Rattle.lc_sexp.specs.Reads.{text_of}
use Rattle.lc_place.proofs.Depths.{opens, closes}
use Rattle.lc_place.proofs.open.brackets_of.Given as goal

abbrev pub invariant-loop-byte : goal.invariant-loop-byte
invariant-loop-byte l = record {
  text : drop l.byte-index (text_of l.bytes) ≡ uncommented l.in_comment (drop l.byte-index l.bytes);
  opened : l.opened ≡ opens (take l.byte-index (text_of l.bytes));
  closed : l.closed ≡ closes (take l.byte-index (text_of l.bytes));
}
