use Rattle.std.proofs.Common.{◌<◌, List, length, subst, arith}
use Rattle.lc_base.specs.declared.ids.ColId.{ColId}
use Rattle.lc_table.specs.Tables.{term_in}
use Rattle.lc_table.specs.declared.node.ColExprId.{ColExprId}
use Rattle.lc_table.proofs.Later.{kept_on}
use Rattle.lc_rider.specs.Stored.{HasNone, IsFirst}
use Rattle.lc_rider.proofs.Placed.{first_within, stored_there, are_stored_there, column_there, stored_behind, are_stored_behind, base_stored}
use Rattle.lc_rider.proofs.stored.store_in.Goals as goal

pub returns-in_default-clause-are : goal.returns-in_default-clause-are
returns-in_default-clause-are c =
    are_stored_behind c.args.terms.now c.store.new.self c.args.columns.now.items c.push.new.self.items c.args.column c.in_ok-stored.stored _ c.in_ok-push.ensures.items c.requires.columns
    (kept_on c.args.terms.now c.base.new.self c.store.new.self c.base.ensures.kept c.store.ensures.kept) c.in_ok-stored.ensures.id

pub returns-in_default-clause-stored : goal.returns-in_default-clause-stored
returns-in_default-clause-stored c =
    let kept = kept_on c.args.terms.now c.base.new.self c.store.new.self c.base.ensures.kept c.store.ensures.kept in
    stored_behind c.args.terms.now c.store.new.self c.args.columns.now.items c.push.new.self.items c.args.column c.in_ok-stored.stored
    (term_in c.args.terms.now c.args.index) (term_in c.args.terms.now c.args.value) c.in_ok-push.ensures.items
    (subst (HasNone c.args.column.0) c.deref.ensures.value c.in_default.ensures.none) c.requires.columns kept
    (base_stored c.args.terms.now c.base.new.self c.store.new.self c.in_ok-base.base c.in_ok-stored.stored c.args.index c.args.value c.args.column c.requires.index c.requires.value c.base.ensures.kept c.in_ok-base.ensures.id c.in_ok-stored.ensures.id)

pub index-requires : goal.index-requires
index-requires c =
    let h : c.in-Some.place < length c.deref.result.now = first_within c.deref.result.now c.in-Some.place c.args.column.0 c.in-Some.ensures.some in
    omega (arith, h, c.deref.ensures.len)

pub store-requires-2-clause-column : goal.store-requires-2-clause-column
store-requires-2-clause-column c =
    column_there c.args.terms.now c.args.columns.now.items c.in-Some.place c.index.result.now
    (subst (λ (ps : List (ColId × ColExprId)). c.in-Some.place < length ps) c.deref.ensures.value (first_within c.deref.result.now c.in-Some.place c.args.column.0 c.in-Some.ensures.some))
    c.index.ensures c.requires.columns

pub index_mut-requires : goal.index_mut-requires
index_mut-requires c =
    let h : c.in-Some.place < length c.deref.result.now = first_within c.deref.result.now c.in-Some.place c.args.column.0 c.in-Some.ensures.some in
    omega (arith, h, c.deref.ensures.len)

pub returns-clause-are : goal.returns-clause-are
returns-clause-are c =
    are_stored_there c.args.terms.now c.store-2.new.self c.args.columns.now.items c.in-Some.place c.args.column c.in_ok-stored-2.stored _ c.requires.columns c.store-2.ensures.kept c.in_ok-stored-2.ensures.id

pub returns-clause-stored : goal.returns-clause-stored
returns-clause-stored c =
    stored_there c.args.terms.now c.store-2.new.self c.args.columns.now.items c.in-Some.place c.index.result.now c.args.column c.in_ok-stored-2.stored
    (term_in c.args.terms.now c.args.index) (term_in c.args.terms.now c.args.value)
    (subst (λ (ps : List (ColId × ColExprId)). IsFirst c.args.column.0 ps c.in-Some.place) c.deref.ensures.value c.in-Some.ensures.some) c.index.ensures c.requires.columns c.store-2.ensures.kept c.in_ok-stored-2.ensures.id
