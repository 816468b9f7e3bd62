-- What clauses see of what is being filled.
use Rattle.std.specs.Prelude.{Bool, true, false, List, [], ◌∷◌, ◌++◌, string_bytes}
use Rattle.lc_sexp.specs.Trees.{Tree, Trees, none, ◌▸◌}
use Rattle.lc_reading.specs.TableView.{listed}
use Rattle.lc_fill.specs.Acts as S
use Rattle.lc_fill.specs.PlanView.{plan_view}
use Rattle.lc_fill.specs.Filled.{Filled, Filler, as_is}
use Rattle.lc_fill.specs.declared.acts.Acts.{Acts}
use Rattle.lc_fill.specs.declared.row.Row.{Row}
use Rattle.lc_fill.specs.declared.row.FilledTree.{FilledTree}

abbrev pub acts_view : Acts → S.Acts
acts_view a = record { names = listed a.names; stand_in = string_bytes a.stand_in; plan = plan_view a.plan.now }

abbrev pub tree_view : FilledTree → Filled Tree
tree_view f = record { whole = f.whole; gaps = f.gaps.items; lacking = f.lacking.items }

-- these trees, and then others
abbrev pub before : List Tree → Trees → Trees
before [] us = us
before (t ∷ ts) us = t ▸ before ts us

-- what the items of a row and those after them make
abbrev pub onto : Row → Filled Trees → Filled Trees
onto row r = record { whole = before row.items.items r.whole; gaps = row.gaps.items ++ r.gaps; lacking = row.lacking.items ++ r.lacking }

-- what the row makes by itself
abbrev pub row_view : Row → Filled Trees
row_view row = onto row (as_is none)

-- how it goes on after a part that is asked for: there may be none
abbrev pub after : Bool → Filler → Filler
after true next n ts = next n ts
after false next n ts = as_is none
