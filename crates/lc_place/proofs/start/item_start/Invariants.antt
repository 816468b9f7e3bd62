use Rattle.std.proofs.Common.{◌≡◌, ◌+◌, take, drop, false}
use Rattle.lc_sexp.specs.Text.{uncommented, lexed}
use Rattle.lc_sexp.specs.Reads.{text_of}
use Rattle.lc_place.specs.Items.{items_among}
use Rattle.lc_place.proofs.Tokens.{ends_in}
use Rattle.lc_place.proofs.start.item_start.Given as goal

abbrev pub invariant-loop-at : goal.invariant-loop-at
invariant-loop-at l = record {
  text : drop l.at (text_of l.bytes) ≡ uncommented l.in_comment (drop l.at l.bytes);
  word : ends_in false (take l.at (text_of l.bytes)) ≡ l.in_word;
  count : items_among (lexed (take l.at (text_of l.bytes))) + l.left ≡ l.number;
}
