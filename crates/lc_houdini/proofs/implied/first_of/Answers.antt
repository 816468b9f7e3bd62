use Rattle.std.proofs.Common.{subst, sym}
use Rattle.lc_table.specs.Tables.{AreFormulas}
use Rattle.lc_houdini.proofs.Opened.{first_are}
use Rattle.lc_houdini.proofs.implied.first_of.Goals as goal

pub returns : goal.returns
returns c = subst (AreFormulas c.args.terms.now) (sym c.in_ok-from_slice.ensures.items) (first_are c.args.terms.now c.args.formulas.now _ c.requires)
