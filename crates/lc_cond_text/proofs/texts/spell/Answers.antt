use Rattle.std.proofs.Common.{◌≡◌, length, refl, rules, set, Some}
use Rattle.lc_table.specs.declared.node.FormulaId.{FormulaId}
use Rattle.lc_table.specs.Tables.{formula_in, IsFormula}
use Rattle.lc_text.specs.Spelled.{spelled_formula}
use Rattle.lc_outline.specs.DevelopmentView.{development_view}
use Rattle.lc_cond_text.specs.ConditionText.{spelled}
use Rattle.lc_cond_text.proofs.Recalled.{recalls_more, lies_behind}
use Rattle.lc_cond_text.proofs.texts.spell.Goals as goal

pub returns-clause-recalls : goal.returns-clause-recalls
returns-clause-recalls c =
    let text = λ (k : FormulaId). spelled_formula (spelled (development_view c.args.development.now)) 0 (formula_in c.args.terms.now k) in
    let old = c.args.texts.now.bytes.items in
    let new = c.push_formula.new.out.items in
    let start : c.len-start.result ≡ length old = search rules in
    let end : c.len-end.result ≡ length new = search rules in
    recalls_more (IsFormula c.args.terms.now) text old new c.args.texts.now.places.items c.make_room.new.places.items
    (set c.make_room.new.places.items c.args.formula.0 (Some (record { start = c.len-start.result; end = c.len-end.result }))) c.args.formula (record { start = c.len-start.result; end = c.len-end.result })
    c.requires.recalls c.in_ok-make_room.ensures.before c.requires.formula c.in_ok-push_formula.ensures
    (lies_behind (text c.args.formula) old new (record { start = c.len-start.result; end = c.len-end.result }) c.in_ok-push_formula.ensures start end) refl
