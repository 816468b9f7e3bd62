use Rattle.std.proofs.Common.{◌≡◌, map, drop}
use Rattle.std.specs.List.{list_all}
use Rattle.lc_term.specs.Places.{known, term_passes}
use Rattle.lc_term.specs.View.{term_of}
use Rattle.lc_seq.proofs.resolving.terms_are_known.Given as goal

-- what is left decides the answer
abbrev pub invariant-loop-term : goal.invariant-loop-term
invariant-loop-term l = list_all (term_passes (known l.columns l.variables)) (map term_of l.terms) ≡ list_all (term_passes (known l.columns l.variables)) (map term_of (drop l.term-index l.terms))
