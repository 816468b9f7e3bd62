use Rattle.std.proofs.Common.{rules, get_or, ◌+◌, refl, take, w64}
use Rattle.lc_table.specs.declared.node.FormulaId.{FormulaId}
use Rattle.std.specs.Prelude.{ℤ, pos, FitsSigned}
use Rattle.lc_table.specs.Tables.{formula_in}
use Rattle.lc_linear.specs.Closing.{combined, entries_in, gap}
use Rattle.lc_linear.specs.Form.{form_of}
use Rattle.lc_linear.specs.LinForm.{numbers}
use Rattle.lc_linear.proofs.InTables.{Reads-same}
use Rattle.lc_linear.proofs.Made.{zero_read}
use Rattle.lc_linear.proofs.Numbers.{widened_number}
use Rattle.lc_linear.proofs.Sums.{get_or-any, combined-more, turn_sum}
use Rattle.lc_linear.proofs.closing.quick_sum.Goals as goal

pub loop-formula-init : goal.loop-formula-init
loop-formula-init c = zero_read c.args.terms.now c.zero-sum.result c.zero-sum.ensures

pub loop-formula-preserved : goal.loop-formula-preserved
loop-formula-preserved c =
    let e : FormulaId × ℤ = get_or c.args.entries.now c.loop-formula.formula-index (record { 0 = 0 }, pos 0) in
    let f : FitsSigned w64 e.1 = search rules in
    let more = combined-more c.args.terms.now c.args.entries.now c.loop-formula.formula-index e c.loop-formula-test.true (get_or-any c.args.entries.now c.loop-formula.formula-index (record { 0 = 0 }, pos 0) e c.loop-formula-test.true) in
    let ts = c.args.terms.now in
    let so_far = combined (entries_in ts (take c.loop-formula.formula-index c.args.entries.now)) in
    let whole = combined (entries_in ts (take (c.loop-formula.formula-index + 1) c.args.entries.now)) in
    let g = gap (formula_in ts e.0) in
    Reads-same ts (numbers c.add_gap.new.form) (numbers c.add_gap.new.form) _ (form_of whole) (λ p. refl)
    (turn_sum whole so_far g e.1 _ more (widened_number e.1 c.from.result f c.from.ensures) (form_of so_far) (form_of g) (λ p. refl) (λ p. refl)) (c.in_ok-add_gap.ensures (form_of so_far) c.loop-formula.invariant)
