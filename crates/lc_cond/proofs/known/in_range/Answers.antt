use Rattle.std.proofs.Common.{◌++◌, ap, ◌∙◌}
use Rattle.std.proofs.lemmas.Result.{IfOk-weaker}
use Rattle.lc_cond.proofs.Adding.{formulas_ahead}
use Rattle.lc_cond.proofs.known.in_range.Goals as goal

pub returns-clause-list : goal.returns-clause-list
returns-clause-list c =
    IfOk-weaker c.joined.result _ _ (λ ks joins fs has. formulas_ahead c.args.terms.now c.range.new.terms c.in_ok-range.range.items c.args.known.now ks.items _ fs has c.in_ok-range.ensures.kept c.in_ok-range.ensures.list (joins ∙ ap (λ l. l ++ c.args.known.now) c.deref.ensures.value)) c.joined.ensures
