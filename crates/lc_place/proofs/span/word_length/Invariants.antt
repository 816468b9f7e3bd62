use Rattle.lc_place.proofs.Spans.{IsWordSoFar}
use Rattle.lc_place.proofs.span.word_length.Given as goal

abbrev pub invariant-loop-at : goal.invariant-loop-at
invariant-loop-at l = IsWordSoFar l.bytes l.at
