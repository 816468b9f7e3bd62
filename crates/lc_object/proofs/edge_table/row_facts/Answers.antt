use Rattle.std.proofs.Common.{◌≡◌, ◌≤◌, ◌<◌, ◌∙◌, ap₂, length, arith, get_or, refl}
use Rattle.std.proofs.lemmas.Bool.Decides.{nat_tests}
use Rattle.lc_base.specs.declared.ids.ColId.{ColId}
use Rattle.lc_term.specs.Syntax.{Eq, Read, Base}
use Rattle.lc_term.specs.View.{term_of, formula_of, formulas_of}
use Rattle.lc_term.specs.declared.formula.Formula.{Formula}
use Rattle.lc_term.specs.declared.formula.Formula as F
use Rattle.lc_object.specs.View.{columns_of, terms_of}
use Rattle.lc_object.specs.Edges.{row_facts}
use Rattle.lc_object.proofs.EdgeRows.{facts_end, facts_more, formula_of-Eq}
use Rattle.lc_object.proofs.edge_table.row_facts.Goals as goal

pub returns-in_default : goal.returns-in_default
returns-in_default c =
    let test = c.in_default.ensures.lookup.0 in
    let past : length c.args.values.now ≤ c.loop-i.i = grind (arith, nat_tests) in
    facts_end c.args.columns.now (term_of c.args.index.now) c.args.values.now c.loop-i.i (formulas_of c.loop-i.facts.items)
    (row_facts (columns_of c.args.columns.now) (term_of c.args.index.now) (terms_of c.args.values.now)) past c.loop-i.invariant

pub loop-i-preserved : goal.loop-i-preserved
loop-i-preserved c =
    let test = c.in-Some.ensures.lookup.0 in
    let there : c.loop-i.i < length c.args.values.now = grind (arith, nat_tests) in
    let d : ColId = record { 0 = 0 } in
    let fact : Formula = F.Eq c.in_ok-read.field-0 c.in_ok-try_clone.field-0 in
    let is : formula_of fact ≡ Eq (Read (Base (get_or c.args.columns.now c.loop-i.i d).0) (term_of c.args.index.now)) (term_of c.in-Some.value.now) =
    formula_of-Eq c.in_ok-read.field-0 c.in_ok-try_clone.field-0 ∙ ap₂ Eq c.in_ok-read.ensures c.in_ok-try_clone.ensures in
    facts_more c.args.columns.now (term_of c.args.index.now) c.args.values.now c.loop-i.i (get_or c.args.columns.now c.loop-i.i d) c.in-Some.value.now c.loop-i.facts.items c.push.new.self.items
    fact (row_facts (columns_of c.args.columns.now) (term_of c.args.index.now) (terms_of c.args.values.now))
    c.loop-i-test.true refl there (c.in-Some.ensures.lookup.1) c.in_ok-push.ensures.items is c.loop-i.invariant
