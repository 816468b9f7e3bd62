use Rattle.std.proofs.Common.{rules, ◌≡◌, ◌+◌, ◌<◌, get_or, length, take, w64, lit<}
use Rattle.std.specs.Prelude.{ℤ, ℕ, List, pos, FitsSigned}
use Rattle.lc_table.specs.NodeTables.{Table}
use Rattle.lc_term.specs.Syntax.{Number, Add, Multiply}
use Rattle.lc_table.specs.Tables.{formula_in}
use Rattle.lc_table.specs.declared.node.FormulaId.{FormulaId}
use Rattle.lc_linear.specs.Closing.{combined, entries_in, gap}
use Rattle.lc_linear.specs.LinForm.{numbers}
use Rattle.lc_linear.proofs.Faults.{passed_on, large_form}
use Rattle.lc_linear.proofs.Made.{zero_read, turn_kept, turn_has_form, turn_read}
use Rattle.lc_linear.proofs.Numbers.{widened_number}
use Rattle.lc_linear.proofs.Sums.{get_or-any, combined-more, HasForm-prefix, turn_gap}
use Rattle.lc_linear.proofs.Weights.{HasForm-weight}
use Rattle.lc_linear.proofs.closing.exact_sum.Goals as goal

-- an entry
abbrev entry : List (FormulaId × ℤ) → ℕ → FormulaId × ℤ
entry es i = get_or es i (record { 0 = 0 }, pos 0)

-- the sum with this entry
more : (ts : Table) (es : List (FormulaId × ℤ)) (i : ℕ) → i < length es →
    combined (entries_in ts (take (i + 1) es)) ≡ Add (combined (entries_in ts (take i es))) (Multiply (entry es i).1 (gap (formula_in ts (entry es i).0)))
more ts es i within = combined-more ts es i (entry es i) within (get_or-any es i (record { 0 = 0 }, pos 0) (entry es i) within)

pub loop-formula-init : goal.loop-formula-init
loop-formula-init c = (HasForm-weight (Number (pos 0)) (lit< tt), zero_read c.args.terms.now c.zero-sum.result c.zero-sum.ensures)

pub returns-in_err-gap_form : goal.returns-in_err-gap_form
returns-in_err-gap_form c = passed_on _ _ c.from_residual.result _ c.from_residual.ensures.1 (λ met fits.
    let ts = c.args.terms.now in
    let es = c.args.entries.now in
    let i = c.loop-formula.formula-index in
    large_form _ _ _ c.in_err-gap_form.ensures met (turn_gap _ _ _ _ (more ts es i c.loop-formula-test.true) (HasForm-prefix ts es (i + 1) fits)))

pub returns-in_err-sum : goal.returns-in_err-sum
returns-in_err-sum c = passed_on _ _ c.from_residual-in_err-sum.result _ c.from_residual-in_err-sum.ensures.1 (λ met fits.
    let ts = c.args.terms.now in
    let es = c.args.entries.now in
    let i = c.loop-formula.formula-index in
    let e : FormulaId × ℤ = entry es i in
    let f : FitsSigned w64 e.1 = search rules in
    let k = widened_number e.1 c.from.result f c.from.ensures in
    large_form _ _ _ c.in_err-sum.ensures met
    (turn_kept ts (numbers c.loop-formula.sum) (numbers c.in_ok-gap_form.field-0) _ _ _ _ _ (more ts es i c.loop-formula-test.true) k c.loop-formula.invariant.1 c.in_ok-gap_form.ensures.1 (HasForm-prefix ts es (i + 1) fits)))

pub loop-formula-preserved : goal.loop-formula-preserved
loop-formula-preserved c =
    let ts = c.args.terms.now in
    let es = c.args.entries.now in
    let i = c.loop-formula.formula-index in
    let e : FormulaId × ℤ = entry es i in
    let f : FitsSigned w64 e.1 = search rules in
    let is = more ts es i c.loop-formula-test.true in
    let k = widened_number e.1 c.from.result f c.from.ensures in
    let g = c.in_ok-gap_form.ensures in (
      turn_has_form ts (numbers c.loop-formula.sum) (numbers c.in_ok-gap_form.field-0) _ _ _ _ _ is k c.loop-formula.invariant.1 g.1 c.loop-formula.invariant.0 g.0 c.in_ok-sum.ensures.0,
      turn_read ts (numbers c.loop-formula.sum) (numbers c.in_ok-gap_form.field-0) _ _ _ _ _ is k c.loop-formula.invariant.1 g.1 c.in_ok-sum.sum c.in_ok-sum.ensures.1,
    )
