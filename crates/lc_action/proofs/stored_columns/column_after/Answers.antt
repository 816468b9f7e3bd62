use Rattle.std.proofs.Common.{◌∙◌, sym, subst, map}
use Rattle.std.proofs.lemmas.List.{take_all}
use Rattle.lc_action.specs.Telling.{entry_of}
use Rattle.lc_action.proofs.Columns.{IsAbsent, column_at_absent}
use Rattle.lc_action.proofs.Entries.{entry_found, absent_step}
use Rattle.lc_action.proofs.stored_columns.column_after.Goals as goal

pub returns-then-eq : goal.returns-then-eq
returns-then-eq c =
    c.in_ok-try_clone.ensures
    ∙ sym (entry_found c.args.columns.now c.loop-entry.entry-index c.entry-item.result c.args.column.0 c.loop-entry-test.true c.entry-item.is (sym c.eq.ensures ∙ c.if-eq.true) c.loop-entry.invariant)

pub loop-entry-preserved : goal.loop-entry-preserved
loop-entry-preserved c =
    absent_step c.args.columns.now c.loop-entry.entry-index c.entry-item.result c.args.column.0 c.loop-entry-test.true c.entry-item.is (sym c.eq.ensures ∙ c.if-eq.false) c.loop-entry.invariant

pub returns : goal.returns
returns c =
    sym (column_at_absent c.args.column.0 (map entry_of c.args.columns.now)
    (subst (λ ps. IsAbsent c.args.column.0 (map entry_of ps)) (take_all c.loop-entry.entry-index c.args.columns.now c.loop-entry-test.false) c.loop-entry.invariant))
