use Rattle.std.proofs.Common.{◌≡◌, ℕ, IfOk, map, subst}
use Rattle.lc_term.specs.Syntax.{Column}
use Rattle.lc_term.specs.Said.{puts, said}
use Rattle.lc_term.specs.View.{term_of}
use Rattle.lc_term.specs.UpdateView.{updates_of}
use Rattle.lc_action.specs.Telling.{columns_in}
use Rattle.lc_action.proofs.stored_columns.store_together.Goals as goal

pub returns : goal.returns
returns c =
    let stored = map (said (columns_in c.args.before.columns.now) (map term_of c.args.before.variables.now)) (updates_of c.args.updates.now) in
    subst (λ (ρ : ℕ → Column). IfOk c.store_more.result (λ x. columns_in x.items ≡ puts ρ stored)) c.in_ok-stored.ensures c.store_more.ensures
