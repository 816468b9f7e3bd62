use Rattle.std.proofs.Common.{ap, arith}
use Rattle.lc_sexp.specs.Trees.{item_count}
use Rattle.lc_sexp.proofs.Builds.{one_counted}
use Rattle.lc_sexp.proofs.sexp.Sexp.item_count.Goals as goal

pub returns : goal.returns
returns c =
    omega (arith, c.len.ensures, c.self.inside.nodes.ok.0, one_counted c.self.inside.text.items c.self.inside.nodes.items c.self.invariant, ap item_count c.self.view_is)
