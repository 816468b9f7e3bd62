use Rattle.std.proofs.Common.{◌≡◌}
use Rattle.std.specs.Prelude.{codes}
use Rattle.lc_sexp.specs.Shown.{rest_of}
use Rattle.lc_object_text.specs.Sections.{forms_in}
use Rattle.lc_object_text.specs.Seen.{size}
use Rattle.lc_outline_text.specs.Sizes.{on_of}
use Rattle.lc_outline_text.proofs.edge_counts.on_of.Given as goal

-- it is to be found among the lists that are left
abbrev pub invariant-ons : goal.invariant-ons
invariant-ons l = on_of l.fn.word (forms_in (codes "on") (rest_of l.rest)) ≡ on_of l.fn.word (forms_in (codes "on") (rest_of l.fn.list))

abbrev pub decreases-ons : goal.decreases-ons
decreases-ons l = size l.rest
