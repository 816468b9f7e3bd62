use Rattle.std.proofs.Common.{ap, sym, ◌∙◌}
use Rattle.std.specs.Option.{option_copied}
use Rattle.lc_table.proofs.Found.{formula_found}
use Rattle.lc_table.proofs.table.Terms.expected.Goals as goal

pub returns : goal.returns
returns c =
    formula_found c.args.self.now _ c.self.inside.formulas.keys c.following-next.result c.in_ok-node.node.now c.self.view_is c.self.invariant
    (sym c.get_index.ensures.key ∙ ap option_copied c.in_ok-node.was)
