use Rattle.std.proofs.Common.{sym, ◌∙◌}
use Rattle.lc_text.proofs.Binders.{bound_index-met, bound_index-passed}
use Rattle.lc_text.proofs.term.bound_index.Goals as goal

pub returns-then-eq : goal.returns-then-eq
returns-then-eq c =
    sym (bound_index-met c.args.bound.now c.args.text.now c.loop-inside.inside _ c.loop-inside-test.true (sym c.eq.ensures ∙ c.if-eq.true) c.loop-inside.invariant)

pub loop-inside-preserved : goal.loop-inside-preserved
loop-inside-preserved c =
    bound_index-passed c.args.bound.now c.args.text.now c.loop-inside.inside _ c.loop-inside-test.true (sym c.eq.ensures ∙ c.if-eq.false) c.loop-inside.invariant
