use Rattle.std.proofs.Common.{◌≡◌, subst, OnOk}
use Rattle.lc_put.specs.PutNumbers.{columns_at}
use Rattle.lc_put.proofs.ByNumber.{are_columns_later, columns_still}
use Rattle.lc_table.proofs.Later.{kept_on, term_later, term_is, is_term_later, keeps_itself}
use Rattle.lc_term.specs.Said.{put}
use Rattle.lc_term.specs.Syntax.{Column}
use Rattle.lc_cond.proofs.after_updates.store_update.Goals as goal

pub store_in-requires-clause-columns : goal.store_in-requires-clause-columns
store_in-requires-clause-columns c =
    let t1 = c.entered_said.new.terms in
    let t2 = c.entered_said-2.new.terms in
    are_columns_later c.args.terms.now t2 c.args.columns.now.items c.requires (kept_on c.args.terms.now t1 t2 c.in_ok-index.ensures.kept c.in_ok-value.ensures.kept)

pub store_in-requires-clause-index : goal.store_in-requires-clause-index
store_in-requires-clause-index c = is_term_later c.entered_said.new.terms c.entered_said-2.new.terms c.in_ok-index.index _ c.in_ok-index.ensures.id c.in_ok-value.ensures.kept

pub store_in-requires-clause-value : goal.store_in-requires-clause-value
store_in-requires-clause-value c = is_term_later c.entered_said-2.new.terms c.entered_said-2.new.terms c.in_ok-value.value _ c.in_ok-value.ensures.id (keeps_itself c.entered_said-2.new.terms)

pub returns-clause-stored : goal.returns-clause-stored
returns-clause-stored c =
    let t0 = c.args.terms.now in
    let t1 = c.entered_said.new.terms in
    let t2 = c.entered_said-2.new.terms in
    let u = c.args.update.now in
    let kept12 = c.in_ok-value.ensures.kept in
    let index = term_is t2 c.in_ok-index.index _ (term_later t1 t2 c.in_ok-index.index _ c.in_ok-index.ensures.id kept12) in
    let value = term_is t2 c.in_ok-value.value _ c.in_ok-value.ensures.id in
    let still = columns_still t0 t2 c.args.columns.now.items c.requires (kept_on t0 t1 t2 c.in_ok-index.ensures.kept kept12) in
    subst (λ (σ : _ → Column). OnOk c.store_in.result (columns_at c.store_in.new.terms c.store_in.new.columns.items ≡ σ))
    (λ j. put (still j) (record { column = u.column.0; index = index j; value = value j })) c.store_in.ensures.stored
