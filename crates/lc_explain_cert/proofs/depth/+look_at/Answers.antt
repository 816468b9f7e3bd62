use Rattle.std.proofs.Common.{rules, arith, ◌<◌, length}
use Rattle.lc_table.specs.Nodes.{AllBelow}
use Rattle.lc_table.specs.Tables.{AreFormulas}
use Rattle.lc_table.proofs.Listed.{beyond-le, get-beyond, are_formulas-get}
use Rattle.lc_explain_cert.proofs.depth.+look_at.Goals as goal

pub look_at-look_at_all-requires : goal.look_at-look_at_all-requires
look_at-look_at_all-requires t c =
    let below : AllBelow c.args.formula.0 c.deref.result.now = search rules in
    let fits : AreFormulas c.args.terms.now c.deref.result.now = search rules in
    let least = beyond-le c.args.formula.0 c.deref.result.now below in
    (omega arith, fits)

pub look_at_all-look_at-requires : goal.look_at_all-look_at-requires
look_at_all-look_at-requires t c =
    let lt : c.loop-formula.formula-index < length c.args.formulas.now = search rules in
    let below = get-beyond c.args.formulas.now c.loop-formula.formula-index (record { 0 = 0 }) lt in
    (omega arith, are_formulas-get c.args.terms.now c.args.formulas.now c.loop-formula.formula-index (record { 0 = 0 }) c.requires lt)
