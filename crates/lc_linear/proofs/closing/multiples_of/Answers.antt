use Rattle.std.proofs.Common.{rules, get_or, take, ◌+◌, w64}
use Rattle.std.specs.Prelude.{ℤ, pos, FitsSigned}
use Rattle.std.proofs.lemmas.Int.{to_z-of_z}
use Rattle.lc_table.specs.Tables.{formula_in}
use Rattle.lc_table.specs.declared.node.FormulaId.{FormulaId}
use Rattle.lc_linear.specs.Closing.{combined, entries_in, gap}
use Rattle.lc_linear.proofs.Loads.{together_more}
use Rattle.lc_linear.proofs.Sums.{get_or-any, combined-more}
use Rattle.lc_linear.proofs.closing.multiples_of.Goals as goal

pub loop-formula-preserved : goal.loop-formula-preserved
loop-formula-preserved c =
    let ts = c.args.terms.now in
    let es = c.args.entries.now in
    let i = c.loop-formula.formula-index in
    let e : FormulaId × ℤ = get_or es i (record { 0 = 0 }, pos 0) in
    let more = combined-more ts es i e c.loop-formula-test.true (get_or-any es i (record { 0 = 0 }, pos 0) e c.loop-formula-test.true) in
    let f : FitsSigned w64 e.1 = search rules in
    together_more ts c.loop-formula.multiples.items c.push_gap.new.multiples.items (combined (entries_in ts (take i es))) (gap (formula_in ts e.0)) (combined (entries_in ts (take (i + 1) es))) e.1 _ (to_z-of_z w64 e.1 f) more
    c.loop-formula.invariant c.in_ok-push_gap.ensures
