use Rattle.std.proofs.Common.{◌≡◌, ℕ, [], ◌∷◌, OnOk, map, pos, ap, ap₂, subst}
use Rattle.lc_put.specs.PutNumbers.{columns_at}
use Rattle.lc_term.specs.Said.{at_client}
use Rattle.lc_term.specs.Syntax.{Column, Number}
use Rattle.lc_term.specs.SystemColumns as Y
use Rattle.lc_term.specs.View.{term_of}
use Rattle.lc_action.specs.ActionView.{first_of}
use Rattle.lc_rider.proofs.MarkStores.{can_store_later, more_stored}
use Rattle.lc_rider.proofs.marked_columns.store_noted.Goals as goal

pub store_own-requires-2 : goal.store_own-requires-2
store_own-requires-2 c =
    can_store_later c.args.terms.now c.store_own.new.terms c.args.effect.before c.args.columns.now.items c.store_own.new.columns.items c.requires c.in_ok-store_own.ensures.kept c.in_ok-store_own.ensures.are

pub returns-clause-stored : goal.returns-clause-stored
returns-clause-stored c =
    let old = c.args.terms.now in
    let mid = c.store_own.new.terms in
    let first = first_of c.args.effect.system in
    subst (λ (σ : ℕ → Column). OnOk c.store_own-2.result (columns_at c.store_own-2.new.terms c.store_own-2.new.columns.items ≡ σ))
    (more_stored old mid c.args.effect.before.columns.now c.args.effect.before.variables.now c.requires.before c.requires.variables c.store_own.ensures.kept (columns_at mid c.store_own.new.columns.items) (columns_at old c.args.columns.now.items)
    _ (at_client (Y.noted first ∷ []) (Number (pos 1) ∷ [])) _ (at_client (Y.note_columns first) (map term_of c.args.effect.branch.now.replies.items))
    c.in_ok-store_own.ensures.stored (ap (λ (j : ℕ). at_client (j ∷ []) (Number (pos 1) ∷ [])) c.noted.ensures) (ap₂ at_client c.notes.ensures (ap (map term_of) c.deref.ensures.value)))
    c.store_own-2.ensures.stored
