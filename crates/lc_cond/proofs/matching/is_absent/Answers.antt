use Rattle.std.proofs.Common.{◌∙◌, sym, subst}
use Rattle.std.proofs.lemmas.List.{take_all}
use Rattle.lc_cond.proofs.Columned.{HasNone, none_more, none_stored}
use Rattle.lc_cond.proofs.matching.is_absent.Goals as goal

pub loop-entry-preserved : goal.loop-entry-preserved
loop-entry-preserved c =
    none_more c.args.columns.now c.loop-entry.entry-index c.args.column.0 (record { 0 = 0 }, record { 0 = 0 }) c.loop-entry-test.true (sym c.eq.ensures ∙ c.if-eq.false) c.loop-entry.invariant

pub returns : goal.returns
returns c = λ _ ts. none_stored ts c.args.columns.now c.args.column.0 (subst (HasNone c.args.column.0) (take_all c.loop-entry.entry-index c.args.columns.now c.loop-entry-test.false) c.loop-entry.invariant)
