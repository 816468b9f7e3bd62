use Rattle.std.proofs.Common.{◌≡◌, take}
use Rattle.lc_object.specs.View.{terms_of}
use Rattle.lc_object.proofs.edge_table.copy_terms.Given as goal

-- the copies so far
abbrev pub invariant-loop-term : goal.invariant-loop-term
invariant-loop-term l = terms_of l.copies.items ≡ terms_of (take l.term-index l.terms)
