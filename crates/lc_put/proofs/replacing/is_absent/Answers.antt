use Rattle.std.proofs.Common.{subst, sym, ◌∙◌, map}
use Rattle.std.proofs.lemmas.List.{take_all}
use Rattle.lc_term.specs.Entries.{entry_of}
use Rattle.lc_term.proofs.Entries.{IsAbsent, column_at_absent, absent_step}
use Rattle.lc_put.proofs.replacing.is_absent.Goals as goal

pub loop-entry-preserved : goal.loop-entry-preserved
loop-entry-preserved c =
    absent_step c.args.columns.now c.loop-entry.entry-index c.entry-item.result c.args.column.0 c.loop-entry-test.true c.entry-item.is (sym c.eq.ensures ∙ c.if-eq.false) c.loop-entry.invariant

pub returns : goal.returns
returns c = λ _.
    column_at_absent c.args.column.0 (map entry_of c.args.columns.now)
    (subst (λ ps. IsAbsent c.args.column.0 (map entry_of ps)) (take_all c.loop-entry.entry-index c.args.columns.now c.loop-entry-test.false) c.loop-entry.invariant)
