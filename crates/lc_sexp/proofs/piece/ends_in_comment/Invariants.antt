use Rattle.std.proofs.Common.{◌≡◌, drop, false}
use Rattle.lc_sexp.proofs.piece.ends_in_comment.Given as goal
use Rattle.lc_sexp.specs.CutFiles.{ends_in_comment}

-- what is left of the text, whether a comment is under way or not, ends as the whole does
abbrev pub invariant-loop-byte : goal.invariant-loop-byte
invariant-loop-byte l = ends_in_comment l.in_comment (drop l.byte-index l.text) ≡ ends_in_comment false l.text
