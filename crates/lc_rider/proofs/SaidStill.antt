-- What is said of the state before, with a path and variables as they were in a table before.
use Rattle.std.proofs.Common.{List, subst}
use Rattle.lc_table.specs.NodeTables.{Table}
use Rattle.lc_put.specs.PutNumbers.{terms_in, AreTerms}
use Rattle.lc_term.specs.Replacement.{replacing, replace_term}
use Rattle.lc_term.specs.Said.{term_at}
use Rattle.lc_term.specs.Syntax.{Term}
use Rattle.lc_table.specs.Tables.{HasTerm, Keeps}
use Rattle.lc_table.specs.declared.node.TermId.{TermId}
use Rattle.lc_put.proofs.ByNumber.{terms_still}
use Rattle.lc_rider.specs.PathView.{path_in, IsPath}
use Rattle.lc_rider.specs.declared.path.Path.{Path}
use Rattle.lc_rider.proofs.PathLater.{path_still}

pub said_still : (old new now : Table) (p : Path) (vs : List TermId) (k : TermId) (t : Term) → IsPath old p → AreTerms old vs → Keeps old new →
    HasTerm now k (replace_term (replacing (path_in new p).columns (term_at (terms_in new vs))) t) →
    HasTerm now k (replace_term (replacing (path_in old p).columns (term_at (terms_in old vs))) t)
said_still old new now p vs k t is are kept h =
    subst (HasTerm now k) (λ i. replace_term (replacing (path_still old new p is kept i).columns (term_at (terms_still old new vs are kept i))) t) h
