use Rattle.std.proofs.Common.{◌≡◌, ◌++◌, [], arith, drop, ap, sym, subst, ◌∙◌, append-nil}
use Rattle.lc_lemmas.proofs.Lists.{dropped_all}
use Rattle.lc_term.specs.State.{state_of, env_of, column_count, variable_count}
use Rattle.lc_term.specs.Updates.{writes_of, UpdatesFit, AreWithin}
use Rattle.lc_term.specs.UpdateView.{updates_of, writes_view}
use Rattle.lc_seq.proofs.Runs.{writes-within}
use Rattle.lc_seq.proofs.running.writes_of.Goals as goal

pub returns-clause-computed : goal.returns-clause-computed
returns-clause-computed c =
    let s = state_of c.args.state.now in
    let e = env_of c.args.env.now in
    let kept = c.loop-update.invariant in
    let none : updates_of (drop c.loop-update.update-index c.args.updates.now) ≡ [] = ap updates_of (dropped_all c.args.updates.now c.loop-update.update-index (omega arith)) in (
      kept.whole_fits (subst (UpdatesFit s e) (sym none) tt),
      sym (append-nil (writes_view c.loop-update.writes.items)) ∙ ap (λ us. writes_view c.loop-update.writes.items ++ writes_of s e us) (sym none) ∙ kept.writes,
    )

pub returns-clause-columns : goal.returns-clause-columns
returns-clause-columns c =
    let s = state_of c.args.state.now in
    let e = env_of c.args.env.now in
    let kept = c.loop-update.invariant in
    let none : updates_of (drop c.loop-update.update-index c.args.updates.now) ≡ [] = ap updates_of (dropped_all c.args.updates.now c.loop-update.update-index (omega arith)) in
    let made = sym (append-nil (writes_view c.loop-update.writes.items)) ∙ ap (λ us. writes_view c.loop-update.writes.items ++ writes_of s e us) (sym none) ∙ kept.writes in
    subst (AreWithin (column_count c.args.state.now)) (sym made)
    (writes-within s e (column_count c.args.state.now) (variable_count c.args.env.now) (updates_of c.args.updates.now) c.requires)
