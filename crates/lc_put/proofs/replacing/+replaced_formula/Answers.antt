use Rattle.std.proofs.Common.{rules, arith, ◌≡◌, ◌<◌, ◌++◌, ◌∷◌, [], length, subst, sym, ap, ap₂, ◌∙◌, get_or, Some}
use Rattle.lc_term.specs.Syntax as S
use Rattle.lc_table.specs.Nodes.{AllBelow}
use Rattle.lc_term.specs.Replacement.{under_many, replace, replace_all}
use Rattle.lc_table.specs.Tables.{formula_in, formulas_in, IsFormula, AreFormulas}
use Rattle.lc_table.proofs.Later.{kept_on, are_formulas_pushed, formulas_pushed, is_formula_still, formula_still}
use Rattle.lc_table.proofs.Listed.{beyond-le, get-beyond, are_formulas-get}
use Rattle.lc_put.proofs.Remembered.{stands_later, formula_remembered, formula_noted, first_formula, second_formula, replaced_parts, replaced_more}
use Rattle.lc_put.proofs.replacing.+replaced_formula.Goals as goal

pub replaced_connected-returns-in-Some-clause-id : goal.replaced_connected-returns-in-Some-clause-id
replaced_connected-returns-in-Some-clause-id g t c =
    formula_remembered g.R.Filled.replacement c.args.table.now c.args.done.now c.args.formula c.args.depth _ c.requires.done.remembers c.requires.there c.in-Some.ensures

pub replaced_connected-enter_changed_formula-requires-clause-there : goal.replaced_connected-enter_changed_formula-requires-clause-there
replaced_connected-enter_changed_formula-requires-clause-there g t c = is_formula_still _ _ c.args.formula c.requires.there c.in_ok-node.ensures.kept

pub replaced_connected-enter_changed_formula-requires-clause-fits : goal.replaced_connected-enter_changed_formula-requires-clause-fits
replaced_connected-enter_changed_formula-requires-clause-fits g t c = c.in_ok-node.ensures.fits

pub replaced_connected-returns-clause-id : goal.replaced_connected-returns-clause-id
replaced_connected-returns-clause-id g t c = c.in_ok-number.ensures.id ∙ ap Some c.in_ok-node.ensures.tree

pub replaced_connected-returns-clause-done : goal.replaced_connected-returns-clause-done
replaced_connected-returns-clause-done g t c =
    formula_noted g.R.Filled.replacement c.args.table.now c.enter_changed_formula.new.table c.args.put.now c.replaced_node.new.done c.note_formula.new.self c.args.formula c.in_ok-number.number c.args.depth c.requires.there
    (kept_on _ _ _ c.in_ok-node.ensures.kept c.in_ok-number.ensures.kept) (stands_later g.R.Filled.replacement c.args.put.now _ _ _ c.in_ok-node.ensures.done c.in_ok-number.ensures.kept)
    (c.in_ok-number.ensures.id ∙ ap Some c.in_ok-node.ensures.tree) c.in_ok-note_formula.ensures.formulas c.in_ok-note_formula.ensures.parts

pub replaced_node-replaced_formulas-requires : goal.replaced_node-replaced_formulas-requires
replaced_node-replaced_formulas-requires g t c =
    let same : c.deref-in-And.result.now ≡ c.in-And.parts.items = search rules in
    let parts_below : AllBelow c.args.formula.0 c.in-And.parts.items = search rules in
    let parts_fit : AreFormulas c.args.table.now c.in-And.parts.items = search rules in
    let least = beyond-le c.args.formula.0 c.deref-in-And.result.now (subst (AllBelow c.args.formula.0) (sym same) parts_below) in
    λ κs lives. (omega arith, (lives, (subst (AreFormulas c.args.table.now) (sym same) parts_fit, c.requires.done)))

pub replaced_node-replaced_formulas-requires-in-Or : goal.replaced_node-replaced_formulas-requires-in-Or
replaced_node-replaced_formulas-requires-in-Or g t c =
    let same : c.deref-in-Or-2.result.now ≡ c.in-Or.parts.items = search rules in
    let parts_below : AllBelow c.args.formula.0 c.in-Or.parts.items = search rules in
    let parts_fit : AreFormulas c.args.table.now c.in-Or.parts.items = search rules in
    let least = beyond-le c.args.formula.0 c.deref-in-Or-2.result.now (subst (AllBelow c.args.formula.0) (sym same) parts_below) in
    λ κs lives. (omega arith, (lives, (subst (AreFormulas c.args.table.now) (sym same) parts_fit, c.requires.done)))

pub replaced_node-returns-in_ok-right-in-Implies-clause-tree : goal.replaced_node-returns-in_ok-right-in-Implies-clause-tree
replaced_node-returns-in_ok-right-in-Implies-clause-tree g t c =
    let t0 = c.args.table.now in
    let r = under_many c.args.depth g.R.Filled.replacement in
    let t1 = c.replaced_formula-in-Implies.new.table in
    let t2 = c.replaced_formula-in-Implies-2.new.table in
    let there : formula_in t0 c.args.formula ≡ S.Implies (formula_in t0 c.in-Implies.left) (formula_in t0 c.in-Implies.right) = search rules in
    let is : IsFormula t0 c.in-Implies.right = search rules in
    let left = first_formula r t0 t1 t2 c.in-Implies.left c.in_ok-left-in-Implies.left c.in_ok-right-in-Implies.ensures.kept c.in_ok-left-in-Implies.ensures.id in
    let right = second_formula r t0 t1 t2 c.in-Implies.right c.in_ok-right-in-Implies.right is c.in_ok-left-in-Implies.ensures.kept c.in_ok-right-in-Implies.ensures.id in
    ap₂ S.Implies left right ∙ ap (replace r) (sym there)

pub replaced_node-returns-in_ok-parts-in-And-2-clause-tree : goal.replaced_node-returns-in_ok-parts-in-And-2-clause-tree
replaced_node-returns-in_ok-parts-in-And-2-clause-tree g t c =
    let t0 = c.args.table.now in
    let r = under_many c.args.depth g.R.Filled.replacement in
    let same : c.deref-in-And.result.now ≡ c.in-And.parts.items = search rules in
    let there : formula_in t0 c.args.formula ≡ S.And (S.formulas (formulas_in t0 c.in-And.parts.items)) = search rules in
    let each = ap S.formulas c.in_ok-parts-in-And-2.ensures.trees ∙ replaced_parts r (formulas_in t0 c.deref-in-And.result.now) ∙ ap (λ ks. replace_all r (S.formulas (formulas_in t0 ks))) same in
    ap S.And each ∙ ap (replace r) (sym there)

pub replaced_node-returns-in_ok-parts-in-Or-2-clause-tree : goal.replaced_node-returns-in_ok-parts-in-Or-2-clause-tree
replaced_node-returns-in_ok-parts-in-Or-2-clause-tree g t c =
    let t0 = c.args.table.now in
    let r = under_many c.args.depth g.R.Filled.replacement in
    let same : c.deref-in-Or-2.result.now ≡ c.in-Or.parts.items = search rules in
    let there : formula_in t0 c.args.formula ≡ S.Or (S.formulas (formulas_in t0 c.in-Or.parts.items)) = search rules in
    let each = ap S.formulas c.in_ok-parts-in-Or-2.ensures.trees ∙ replaced_parts r (formulas_in t0 c.deref-in-Or-2.result.now) ∙ ap (λ ks. replace_all r (S.formulas (formulas_in t0 ks))) same in
    ap S.Or each ∙ ap (replace r) (sym there)

pub replaced_formulas-replaced_formula-requires : goal.replaced_formulas-replaced_formula-requires
replaced_formulas-replaced_formula-requires g t c =
    let lt : c.loop-formula.formula-index < length c.args.formulas.now = search rules in
    let below = get-beyond c.args.formulas.now c.loop-formula.formula-index (record { 0 = 0 }) lt in
    let is = are_formulas-get c.args.table.now c.args.formulas.now c.loop-formula.formula-index (record { 0 = 0 }) c.requires.there lt in
    λ κs lives. (omega arith, (lives, (is_formula_still c.args.table.now c.loop-formula.table _ is c.loop-formula.invariant.0, c.loop-formula.invariant.1)))

pub replaced_formulas-loop-formula-preserved : goal.replaced_formulas-loop-formula-preserved
replaced_formulas-loop-formula-preserved g t c =
    let i = c.loop-formula.invariant in
    let t0 = c.args.table.now in
    let r = under_many c.args.depth g.R.Filled.replacement in
    let now = c.replaced_formula.new.table in
    let ks = c.loop-formula.entered.items in
    let k = c.in_ok-replaced_formula.field-0 in
    let at = c.in_ok-replaced_formula.ensures.id in
    let kept = c.in_ok-replaced_formula.ensures.kept in
    let items : c.push.new.self.items ≡ ks ++ k ∷ [] = search rules in
    let lt : c.loop-formula.formula-index < length c.args.formulas.now = search rules in
    let is = are_formulas-get t0 c.args.formulas.now c.loop-formula.formula-index (record { 0 = 0 }) c.requires.there lt in
    let still = formula_still t0 c.loop-formula.table (get_or c.args.formulas.now c.loop-formula.formula-index (record { 0 = 0 })) is i.0 in
    let more = replaced_more r t0 c.args.formulas.now c.loop-formula.formula-index (record { 0 = 0 }) lt in (
      kept_on t0 c.loop-formula.table now i.0 kept,
      c.in_ok-replaced_formula.ensures.done,
      subst (AreFormulas now) (sym items) (are_formulas_pushed c.loop-formula.table now ks k _ i.2 kept at),
      ap (formulas_in now) items ∙ formulas_pushed c.loop-formula.table now ks k _ i.2 kept at ∙ ap₂ (λ l f. l ++ replace r f ∷ []) i.3 still ∙ sym more,
    )
