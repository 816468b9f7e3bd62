use Rattle.std.proofs.Common.{◌≡◌, map, drop}
use Rattle.lc_term.specs.Updates.{assigned}
use Rattle.lc_term.specs.View.{term_of}
use Rattle.lc_object.specs.View.{locals_of, terms_of}
use Rattle.lc_rider.proofs.edge.assigned.Given as goal

-- what is left to be put gives the same terms
abbrev pub invariant-loop-i : goal.invariant-loop-i
invariant-loop-i l =
    assigned (map term_of l.terms.items) (locals_of (drop l.i l.targets)) (terms_of (drop l.i l.values))
    ≡ assigned (map term_of l.initial.terms.items) (locals_of l.targets) (terms_of l.values)
