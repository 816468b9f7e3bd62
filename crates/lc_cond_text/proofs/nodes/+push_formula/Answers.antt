use Rattle.std.proofs.Common.{rules, arith, ◌<◌, length}
use Rattle.lc_table.specs.Nodes.{AllBelow}
use Rattle.lc_table.specs.Tables.{AreFormulas}
use Rattle.lc_table.proofs.Listed.{beyond-le, get-beyond, are_formulas-get}
use Rattle.lc_cond_text.proofs.nodes.+push_formula.Goals as goal

pub push_formula-push_parts-requires : goal.push_formula-push_parts-requires
push_formula-push_parts-requires t c =
    let below : AllBelow c.args.formula.0 c.deref.result.now = search rules in
    let fits : AreFormulas c.args.terms.now c.deref.result.now = search rules in
    let least = beyond-le c.args.formula.0 c.deref.result.now below in
    (omega arith, fits)

pub push_formula-push_parts-requires-in-Or : goal.push_formula-push_parts-requires-in-Or
push_formula-push_parts-requires-in-Or t c =
    let below : AllBelow c.args.formula.0 c.deref-in-Or.result.now = search rules in
    let fits : AreFormulas c.args.terms.now c.deref-in-Or.result.now = search rules in
    let least = beyond-le c.args.formula.0 c.deref-in-Or.result.now below in
    (omega arith, fits)

pub push_parts-push_formula-requires : goal.push_parts-push_formula-requires
push_parts-push_formula-requires t c =
    let lt : c.loop-part.part-index < length c.args.parts.now = search rules in
    let fits : AreFormulas c.args.terms.now c.args.parts.now = search rules in
    let below = get-beyond c.args.parts.now c.loop-part.part-index (record { 0 = 0 }) lt in
    (omega arith, are_formulas-get c.args.terms.now c.args.parts.now c.loop-part.part-index (record { 0 = 0 }) fits lt)
