use Rattle.std.proofs.Common.{ap, subst, sym, ◌∙◌, map, Some}
use Rattle.std.proofs.lemmas.List.{take_all}
use Rattle.std.proofs.lemmas.Result.{IfOk-weaker}
use Rattle.lc_table.specs.Nodes.{column as column_part}
use Rattle.lc_term.specs.Entries.{entry_of}
use Rattle.lc_term.proofs.Entries.{IsAbsent, column_at_absent, entry_found, absent_step}
use Rattle.lc_put.proofs.replacing.enter_stored.Goals as goal

pub returns-then-eq-clause-id : goal.returns-then-eq-clause-id
returns-then-eq-clause-id c =
    let is = entry_found c.args.columns.now c.loop-entry.entry-index c.entry-item.result c.args.column.0 c.loop-entry-test.true c.entry-item.is (sym c.eq.ensures ∙ c.if-eq.true) c.loop-entry.invariant.1 in
    IfOk-weaker c.enter_column.result _ _ (λ k h. h ∙ ap (λ x. Some (column_part x)) (sym is)) c.enter_column.ensures.id

pub loop-entry-preserved : goal.loop-entry-preserved
loop-entry-preserved c = (
  c.loop-entry.invariant.0,
  absent_step c.args.columns.now c.loop-entry.entry-index c.entry-item.result c.args.column.0 c.loop-entry-test.true c.entry-item.is (sym c.eq.ensures ∙ c.if-eq.false) c.loop-entry.invariant.1,
)

pub returns-clause-id : goal.returns-clause-id
returns-clause-id c =
    let absent = subst (λ ps. IsAbsent c.args.column.0 (map entry_of ps)) (take_all c.loop-entry.entry-index c.args.columns.now c.loop-entry-test.false) c.loop-entry.invariant.1 in
    IfOk-weaker c.base.result _ _ (λ k h. h ∙ ap (λ x. Some (column_part x)) (sym (column_at_absent c.args.column.0 (map entry_of c.args.columns.now) absent))) c.base.ensures.id
