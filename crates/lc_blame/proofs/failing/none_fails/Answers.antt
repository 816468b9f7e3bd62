use Rattle.std.proofs.Common.{◌<◌, ◌≤◌, length, get_or, rules, arith}
use Rattle.lc_table.specs.Tables.{formula_in}
use Rattle.lc_table.specs.declared.node.FormulaId.{FormulaId}
use Rattle.lc_table.proofs.Listed.{are_formulas-get}
use Rattle.lc_term.specs.State.{state_of}
use Rattle.lc_watch.specs.Watched.{Fails}
use Rattle.lc_acting.proofs.Deciding.{so_if, not_if}
use Rattle.lc_blame.proofs.Firsts.{not_none, none_more, none_all, read_is}
use Rattle.lc_blame.proofs.failing.none_fails.Goals as goal

abbrev no_number : FormulaId
no_number = record { 0 = 0 }

pub fails-requires : goal.fails-requires
fails-requires c =
    let lt : c.loop-formula.formula-index < length c.args.formulas.now = search rules in
    are_formulas-get c.args.terms.now c.args.formulas.now c.loop-formula.formula-index no_number c.requires lt

pub returns-then-failed : goal.returns-then-failed
returns-then-failed c =
    let ts = c.args.terms.now in
    let fs = c.args.formulas.now in
    let i = c.loop-formula.formula-index in
    let lt : i < length fs = search rules in
    let x = get_or fs i no_number in
    let Is = Fails c.args.tried.now (state_of c.args.state.now) c.args.env.now.values.items in
    not_none Is (formula_in ts) fs i x lt (read_is fs i no_number lt) (so_if (Is (formula_in ts x)) c.in_ok-failed.failed c.in_ok-failed.ensures c.if-failed.true)

pub loop-formula-preserved : goal.loop-formula-preserved
loop-formula-preserved c =
    let ts = c.args.terms.now in
    let fs = c.args.formulas.now in
    let i = c.loop-formula.formula-index in
    let lt : i < length fs = search rules in
    let x = get_or fs i no_number in
    let Is = Fails c.args.tried.now (state_of c.args.state.now) c.args.env.now.values.items in
    none_more Is (formula_in ts) fs i x lt (read_is fs i no_number lt) (not_if (Is (formula_in ts x)) c.in_ok-failed.failed c.in_ok-failed.ensures c.if-failed.false) c.loop-formula.invariant

pub returns : goal.returns
returns c =
    let past : length c.args.formulas.now ≤ c.loop-formula.formula-index = omega (arith, c.loop-formula-test.false) in
    none_all (Fails c.args.tried.now (state_of c.args.state.now) c.args.env.now.values.items) (formula_in c.args.terms.now) c.args.formulas.now c.loop-formula.formula-index past c.loop-formula.invariant
