use Rattle.std.specs.List.{All}
use Rattle.lc_table.specs.Tables.{IsColumn}
use Rattle.lc_explain_cert.proofs.depth.unknown_stores.Given as goal

abbrev pub invariant-stores : goal.invariant-stores
invariant-stores l = IsColumn l.terms l.rest × All (IsColumn l.terms) l.stores.items

abbrev pub decreases-stores : goal.decreases-stores
decreases-stores l = l.rest.0
