use Rattle.std.proofs.Common.{rules, arith, ◌<◌, length}
use Rattle.lc_table.specs.Nodes.{AllBelow}
use Rattle.lc_table.specs.Tables.{AreFormulas}
use Rattle.lc_table.proofs.Listed.{beyond-le, get-beyond, are_formulas-get}
use Rattle.lc_nodes.proofs.nodes.Nodes.+take_formula.Goals as goal

pub take_formula-take_formulas-requires : goal.take_formula-take_formulas-requires
take_formula-take_formulas-requires t c =
    let below : AllBelow c.args.formula.0 c.deref.result.now = search rules in
    let fits : AreFormulas c.args.terms.now c.deref.result.now = search rules in
    let least = beyond-le c.args.formula.0 c.deref.result.now below in
    (omega arith, fits)

pub take_formula-take_formulas-requires-in-Or : goal.take_formula-take_formulas-requires-in-Or
take_formula-take_formulas-requires-in-Or t c =
    let below : AllBelow c.args.formula.0 c.deref-in-Or.result.now = search rules in
    let fits : AreFormulas c.args.terms.now c.deref-in-Or.result.now = search rules in
    let least = beyond-le c.args.formula.0 c.deref-in-Or.result.now below in
    (omega arith, fits)

pub take_formulas-take_formula-requires : goal.take_formulas-take_formula-requires
take_formulas-take_formula-requires t c =
    let lt : c.loop-formula.formula-index < length c.args.formulas.now = search rules in
    let fits : AreFormulas c.args.terms.now c.args.formulas.now = search rules in
    let below = get-beyond c.args.formulas.now c.loop-formula.formula-index (record { 0 = 0 }) lt in
    (omega arith, are_formulas-get c.args.terms.now c.args.formulas.now c.loop-formula.formula-index (record { 0 = 0 }) fits lt)
