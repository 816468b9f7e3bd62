use Rattle.std.proofs.Common.{◌≡◌, ap, sym, ◌∙◌, ap₂, Some, rules, slice_get, refl, subst, arith}
use Rattle.lc_term.specs.Chains.{is_store}
use Rattle.lc_term.specs.Syntax as S
use Rattle.lc_table.specs.Nodes.{term as term_part, column as column_part}
use Rattle.lc_table.specs.Tables.{parts, term_in, column_in, HasColumn}
use Rattle.lc_table.proofs.Chained.{last_store}
use Rattle.lc_copy.proofs.Copied.{copies_kept, column_noted, copied_store}
use Rattle.lc_table.proofs.Later.{column_later, term_is, column_is, kept_on}
use Rattle.lc_copy.proofs.copying.+copied_part.Goals as goal

pub copied_part-returns-in_ok-read-in-Read-clause-id : goal.copied_part-returns-in_ok-read-in-Read-clause-id
copied_part-returns-in_ok-read-in-Read-clause-id t c =
    let now = c.copied_term-in-Read.new.table in
    let column = column_is now _ _ (column_later _ now _ _ c.in_ok-column-in-Read.ensures.id c.in_ok-index-in-Read.ensures.kept) in
    let index = term_is now _ _ c.in_ok-index-in-Read.ensures.id in
    let there : slice_get (parts c.args.other.now) c.args.part ≡ Some (term_part (S.Read (column_in c.args.other.now c.in-Read.column) (term_in c.args.other.now c.in-Read.index))) = search rules in
    c.in_ok-read-in-Read.ensures.id ∙ ap (λ x. Some (term_part x)) (ap₂ S.Read column index) ∙ sym there

pub copied_part-returns-in_ok-number-in-Number-clause-copies : goal.copied_part-returns-in_ok-number-in-Number-clause-copies
copied_part-returns-in_ok-number-in-Number-clause-copies t c = copies_kept c.args.other.now _ _ _ c.requires.copies c.in_ok-number-in-Number.ensures.kept

pub copied_part-returns-in_ok-variable-in-Variable-clause-copies : goal.copied_part-returns-in_ok-variable-in-Variable-clause-copies
copied_part-returns-in_ok-variable-in-Variable-clause-copies t c = copies_kept c.args.other.now _ _ _ c.requires.copies c.in_ok-variable-in-Variable.ensures.kept

pub copied_part-returns-in_ok-bound-in-Bound-clause-copies : goal.copied_part-returns-in_ok-bound-in-Bound-clause-copies
copied_part-returns-in_ok-bound-in-Bound-clause-copies t c = copies_kept c.args.other.now _ _ _ c.requires.copies c.in_ok-bound-in-Bound.ensures.kept

pub copied_part-returns-in_ok-add-in-Add-clause-copies : goal.copied_part-returns-in_ok-add-in-Add-clause-copies
copied_part-returns-in_ok-add-in-Add-clause-copies t c = copies_kept c.args.other.now _ _ _ c.in_ok-right-in-Add.ensures.copies c.in_ok-add-in-Add.ensures.kept

pub copied_part-returns-in_ok-subtract-in-Subtract-clause-copies : goal.copied_part-returns-in_ok-subtract-in-Subtract-clause-copies
copied_part-returns-in_ok-subtract-in-Subtract-clause-copies t c = copies_kept c.args.other.now _ _ _ c.in_ok-right-in-Subtract.ensures.copies c.in_ok-subtract-in-Subtract.ensures.kept

pub copied_part-returns-in_ok-multiply-in-Multiply-clause-copies : goal.copied_part-returns-in_ok-multiply-in-Multiply-clause-copies
copied_part-returns-in_ok-multiply-in-Multiply-clause-copies t c = copies_kept c.args.other.now _ _ _ c.in_ok-term-in-Multiply.ensures.copies c.in_ok-multiply-in-Multiply.ensures.kept

pub copied_part-returns-in_ok-read-in-Read-clause-copies : goal.copied_part-returns-in_ok-read-in-Read-clause-copies
copied_part-returns-in_ok-read-in-Read-clause-copies t c = copies_kept c.args.other.now _ _ _ c.in_ok-index-in-Read.ensures.copies c.in_ok-read-in-Read.ensures.kept

pub copied_column-stores-init : goal.copied_column-stores-init
copied_column-stores-init t c = (
  c.in_ok-here.ensures.kept,
  c.in_ok-here.ensures.copies,
  c.in_ok-chain.ensures.stores,
  subst (HasColumn c.copied_below.new.table c.in_ok-here.here) (sym c.in_ok-chain.ensures.below) c.in_ok-here.ensures.id,
)

pub copied_column-copied_store-requires : goal.copied_column-copied_store-requires
copied_column-copied_store-requires t c =
    let i = c.stores.invariant in
    let other = c.args.other.now in
    let last = last_store other c.args.column.0 (column_in other c.args.column) c.stores.chain.stores.items c.pop.new.self.items c.in-Some.store c.in-Some.ensures.items i.2 in
    let within = last.1.within in
    (omega arith, (last.1.column, (ap is_store last.1.tree ∙ last.1.store, (subst (HasColumn c.stores.table c.stores.here) last.2 i.3, i.1))))

pub copied_column-stores-preserved : goal.copied_column-stores-preserved
copied_column-stores-preserved t c =
    let i = c.stores.invariant in
    let other = c.args.other.now in
    let last = last_store other c.args.column.0 (column_in other c.args.column) c.stores.chain.stores.items c.pop.new.self.items c.in-Some.store c.in-Some.ensures.items i.2 in (
      kept_on c.args.table.now c.stores.table c.copied_store.new.table i.0 c.in_ok-here-2.ensures.kept,
      c.in_ok-here-2.ensures.copies,
      last.0,
      subst (HasColumn c.copied_store.new.table c.in_ok-here-2.here) last.1.tree c.in_ok-here-2.ensures.id,
    )

pub copied_store-returns-clause-id : goal.copied_store-returns-clause-id
copied_store-returns-clause-id t c =
    let other = c.args.other.now in
    let tree : column_in other c.args.store ≡ S.Store (column_in other c.in-Store.field-0) (term_in other c.in-Store.index) (term_in other c.in-Store.value) = search rules in
    c.in_ok-number-in-Store.ensures.id
    ∙ ap (λ x. Some (column_part x)) (copied_store other c.args.table.now c.copied_term.new.table c.copied_term-in-Store.new.table c.args.store c.args.below (column_in other c.in-Store.field-0) (term_in other c.in-Store.index)
    (term_in other c.in-Store.value) c.in_ok-index-in-Store.index c.in_ok-value-in-Store.value tree c.in_ok-index-in-Store.ensures.kept c.in_ok-value-in-Store.ensures.kept c.requires.below c.in_ok-index-in-Store.ensures.id
    c.in_ok-value-in-Store.ensures.id)

pub copied_store-returns-clause-copies : goal.copied_store-returns-clause-copies
copied_store-returns-clause-copies t c =
    let other = c.args.other.now in
    let t2 = c.copied_term-in-Store.new.table in
    let t3 = c.store.new.self in
    let tree : column_in other c.args.store ≡ S.Store (column_in other c.in-Store.field-0) (term_in other c.in-Store.index) (term_in other c.in-Store.value) = search rules in
    let same = copied_store other c.args.table.now c.copied_term.new.table t2 c.args.store c.args.below (column_in other c.in-Store.field-0) (term_in other c.in-Store.index) (term_in other c.in-Store.value) c.in_ok-index-in-Store.index
    c.in_ok-value-in-Store.value tree c.in_ok-index-in-Store.ensures.kept c.in_ok-value-in-Store.ensures.kept c.requires.below c.in_ok-index-in-Store.ensures.id c.in_ok-value-in-Store.ensures.id in
    column_noted other t3 c.copied_term-in-Store.new.copied _ c.args.store c.in_ok-number-in-Store.number (copies_kept other t2 t3 _ c.in_ok-value-in-Store.ensures.copies c.in_ok-number-in-Store.ensures.kept) c.requires.there
    (c.in_ok-number-in-Store.ensures.id ∙ ap (λ x. Some (column_part x)) same) c.in_ok-insert-in-Store.ensures.updates.0 refl
