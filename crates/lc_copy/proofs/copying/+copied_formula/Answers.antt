use Rattle.std.proofs.Common.{rules, arith, ◌≡◌, ◌<◌, ◌++◌, ◌∷◌, [], length, subst, sym, refl, ap, ◌∙◌, get_or, Some}
use Rattle.lc_table.specs.Nodes.{AllBelow}
use Rattle.lc_table.specs.Tables.{formula_in, formulas_in, AreFormulas}
use Rattle.lc_copy.proofs.Copied.{copies_kept, formula_noted}
use Rattle.lc_table.proofs.Later.{kept_on, are_formulas_pushed, formulas_pushed}
use Rattle.lc_table.proofs.Listed.{beyond-le, get-beyond, are_formulas-get, formulas_in-more}
use Rattle.lc_copy.proofs.copying.+copied_formula.Goals as goal

pub copied_node-copied_formulas-requires : goal.copied_node-copied_formulas-requires
copied_node-copied_formulas-requires t c =
    let below : AllBelow c.args.formula.0 c.deref.result.now = search rules in
    let fits : AreFormulas c.args.other.now c.deref.result.now = search rules in
    let least = beyond-le c.args.formula.0 c.deref.result.now below in
    (omega arith, (fits, c.requires.copies))

pub copied_node-copied_formulas-requires-in-Or : goal.copied_node-copied_formulas-requires-in-Or
copied_node-copied_formulas-requires-in-Or t c =
    let below : AllBelow c.args.formula.0 c.deref-in-Or.result.now = search rules in
    let fits : AreFormulas c.args.other.now c.deref-in-Or.result.now = search rules in
    let least = beyond-le c.args.formula.0 c.deref-in-Or.result.now below in
    (omega arith, (fits, c.requires.copies))

pub copied_formulas-copied_formula-requires : goal.copied_formulas-copied_formula-requires
copied_formulas-copied_formula-requires t c =
    let lt : c.loop-formula.formula-index < length c.args.formulas.now = search rules in
    let below = get-beyond c.args.formulas.now c.loop-formula.formula-index (record { 0 = 0 }) lt in
    (omega arith, (are_formulas-get c.args.other.now c.args.formulas.now c.loop-formula.formula-index (record { 0 = 0 }) c.requires.there lt, c.loop-formula.invariant.1))

pub copied_formulas-loop-formula-preserved : goal.copied_formulas-loop-formula-preserved
copied_formulas-loop-formula-preserved t c =
    let i = c.loop-formula.invariant in
    let now = c.copied_formula.new.table in
    let ks = c.loop-formula.entered.items in
    let k = c.in_ok-copied_formula.field-0 in
    let at = c.in_ok-copied_formula.ensures.id in
    let kept = c.in_ok-copied_formula.ensures.kept in
    let items : c.push.new.self.items ≡ ks ++ k ∷ [] = search rules in
    let lt : c.loop-formula.formula-index < length c.args.formulas.now = search rules in
    let more = formulas_in-more c.args.other.now c.args.formulas.now c.loop-formula.formula-index (record { 0 = 0 }) lt in (
      kept_on c.args.table.now c.loop-formula.table now i.0 kept,
      c.in_ok-copied_formula.ensures.copies,
      subst (AreFormulas now) (sym items) (are_formulas_pushed c.loop-formula.table now ks k _ i.2 kept at),
      ap (formulas_in now) items ∙ formulas_pushed c.loop-formula.table now ks k _ i.2 kept at ∙ ap (λ l. l ++ formula_in c.args.other.now (get_or c.args.formulas.now c.loop-formula.formula-index (record { 0 = 0 })) ∷ []) i.3 ∙ sym more,
    )

pub copied_formula-returns-clause-copies : goal.copied_formula-returns-clause-copies
copied_formula-returns-clause-copies t c =
    formula_noted c.args.other.now c.enter_node.new.self c.copied_node.new.copied _ c.args.formula (record { 0 = c.in_ok-number.number })
    (copies_kept c.args.other.now _ _ _ c.in_ok-node.ensures.copies c.in_ok-number.ensures.kept) c.requires.there (c.in_ok-number.ensures.formula ∙ ap Some c.in_ok-node.ensures.tree)
    c.in_ok-insert.ensures.updates.0 refl
