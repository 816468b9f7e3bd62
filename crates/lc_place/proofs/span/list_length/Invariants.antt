use Rattle.std.proofs.Common.{◌≡◌, drop}
use Rattle.lc_sexp.specs.Text.{uncommented}
use Rattle.lc_sexp.specs.Reads.{text_of}
use Rattle.lc_place.proofs.Depths.{IsUnderWay}
use Rattle.lc_place.proofs.span.list_length.Given as goal

abbrev pub invariant-loop-at : goal.invariant-loop-at
invariant-loop-at l = record {
  text : drop l.at (text_of l.bytes) ≡ uncommented l.in_comment (drop l.at l.bytes);
  under_way : IsUnderWay (text_of l.bytes) l.at l.depth;
}
