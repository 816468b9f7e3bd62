use Rattle.std.proofs.Common.{◌≡◌, ◌∙◌, ℕ, List, [], ◌∷◌, ◌++◌, OnOk, map, pos, refl, ap, ap₂, subst, append_assoc}
use Rattle.lc_put.specs.PutNumbers.{columns_at, terms_in}
use Rattle.lc_term.specs.Said.{puts, said, at_client}
use Rattle.lc_term.specs.Syntax.{Column, Number}
use Rattle.lc_term.specs.SystemColumns as Y
use Rattle.lc_term.specs.UpdateView.{updates_of}
use Rattle.lc_term.specs.Updates.{Update}
use Rattle.lc_term.specs.View.{term_of}
use Rattle.lc_term.specs.declared.update.Update as M
use Rattle.lc_table.proofs.Later.{kept_on}
use Rattle.lc_action.specs.ActionView.{first_of}
use Rattle.lc_rider.proofs.MarkStores.{can_store_later, more_stored}
use Rattle.lc_rider.proofs.marked_columns.store_settled.Goals as goal

pub store_own-requires : goal.store_own-requires
store_own-requires c =
    can_store_later c.args.terms.now c.store_updates.new.terms c.args.effect.before c.args.columns.now.items c.store_updates.new.columns.items c.requires c.in_ok-store_updates.ensures.kept c.in_ok-store_updates.ensures.are

pub store_own-requires-2 : goal.store_own-requires-2
store_own-requires-2 c =
    let old = c.args.terms.now in
    let now = c.store_own.new.terms in
    can_store_later old now c.args.effect.before c.args.columns.now.items c.store_own.new.columns.items c.requires
    (kept_on old c.store_updates.new.terms now c.store_updates.ensures.kept c.in_ok-store_own.ensures.kept) c.in_ok-store_own.ensures.are

pub returns-clause-stored : goal.returns-clause-stored
returns-clause-stored c =
    let old = c.args.terms.now in
    let mid = c.store_updates.new.terms in
    let now = c.store_own.new.terms in
    let ps = c.args.effect.before.columns.now in
    let ks = c.args.effect.before.variables.now in
    let first = first_of c.args.effect.system in
    let start = columns_at old c.args.columns.now.items in
    let us = updates_of c.args.effect.branch.now.updates.items in
    let vs = at_client (Y.rep_columns first) (map term_of c.args.effect.branch.now.replies.items) in
    let ws = at_client (Y.pend first ∷ []) (Number (pos 2) ∷ []) in
    let one = c.store_updates.ensures.kept in
    let two = c.in_ok-store_own.ensures.stored ∙ more_stored old mid ps ks c.requires.before c.requires.variables one (columns_at mid c.store_updates.new.columns.items) start _ us _ vs
    c.in_ok-store_updates.ensures.stored (ap (λ (xs : List M.Update). updates_of xs) c.deref.ensures.value) (ap₂ at_client c.replies.ensures (ap (map term_of) c.deref-2.ensures.value)) in
    let three = more_stored old now ps ks c.requires.before c.requires.variables (kept_on old mid now one c.store_own.ensures.kept) (columns_at now c.store_own.new.columns.items) start (us ++ vs) (us ++ vs) _ ws
    two refl (ap (λ (j : ℕ). at_client (j ∷ []) (Number (pos 2) ∷ [])) c.pend.ensures) in
    subst (λ (σ : ℕ → Column). OnOk c.store_own-2.result (columns_at c.store_own-2.new.terms c.store_own-2.new.columns.items ≡ σ))
    (three ∙ ap (λ (xs : List Update). puts start (map (said (columns_at old ps) (terms_in old ks)) xs)) (append_assoc us vs ws))
    c.store_own-2.ensures.stored
