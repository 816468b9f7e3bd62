use Rattle.std.proofs.Common.{◌≡◌, ap, ap₂, sym, ◌∙◌, Some, rules, refl, slice_get, subst, arith, false}
use Rattle.lc_term.specs.Syntax as S
use Rattle.lc_table.specs.Nodes.{term as term_part, column as column_part}
use Rattle.lc_table.specs.Tables.{parts, term_in, column_in, IsTerm, HasColumn}
use Rattle.lc_put.specs.NodeReplacement.{part_in, replaced_part}
use Rattle.lc_table.proofs.Later.{kept_on, keeps_itself}
use Rattle.lc_put.proofs.NodeReplacement.{one_term, first_term, second_term, first_column}
use Rattle.lc_term.specs.Replacement.{replace_column}
use Rattle.lc_term.specs.Substitution.{shifting}
use Rattle.lc_put.proofs.ReplacedStores.{next_store, moved_below, replaced_store, store_noted}
use Rattle.lc_put.proofs.NodeReplacement.{replaced_later}
use Rattle.lc_put.proofs.Unmoved.{below_stores_fails, handed_on}
use Rattle.lc_put.specs.declared.node_shift.Unmoved.TheVariants.{NoPlace}
use Rattle.lc_term.specs.Places.{column_passes, shift_fits}
use Rattle.lc_put.proofs.node_shift.+shifted_part.Goals as goal

pub shifted_part-returns-in_ok-bound-in-Bound-clause-done : goal.shifted_part-returns-in_ok-bound-in-Bound-clause-done
shifted_part-returns-in_ok-bound-in-Bound-clause-done t c = replaced_later (shifting c.args.added c.args.cutoff) _ _ _ c.requires.done c.in_ok-bound-in-Bound.ensures.kept

pub shifted_part-returns-in_ok-add-in-Add-clause-done : goal.shifted_part-returns-in_ok-add-in-Add-clause-done
shifted_part-returns-in_ok-add-in-Add-clause-done t c = replaced_later (shifting c.args.added c.args.cutoff) _ _ _ c.in_ok-right-in-Add.ensures.done c.in_ok-add-in-Add.ensures.kept

pub shifted_part-returns-in_ok-subtract-in-Subtract-clause-done : goal.shifted_part-returns-in_ok-subtract-in-Subtract-clause-done
shifted_part-returns-in_ok-subtract-in-Subtract-clause-done t c = replaced_later (shifting c.args.added c.args.cutoff) _ _ _ c.in_ok-right-in-Subtract.ensures.done c.in_ok-subtract-in-Subtract.ensures.kept

pub shifted_part-returns-in_ok-multiply-in-Multiply-clause-done : goal.shifted_part-returns-in_ok-multiply-in-Multiply-clause-done
shifted_part-returns-in_ok-multiply-in-Multiply-clause-done t c = replaced_later (shifting c.args.added c.args.cutoff) _ _ _ c.in_ok-term-in-Multiply.ensures.done c.in_ok-multiply-in-Multiply.ensures.kept

pub shifted_part-returns-in_ok-read-in-Read-clause-done : goal.shifted_part-returns-in_ok-read-in-Read-clause-done
shifted_part-returns-in_ok-read-in-Read-clause-done t c = replaced_later (shifting c.args.added c.args.cutoff) _ _ _ c.in_ok-index-in-Read.ensures.done c.in_ok-read-in-Read.ensures.kept

pub shifted_part-returns-in_ok-add-in-Add-clause-id : goal.shifted_part-returns-in_ok-add-in-Add-clause-id
shifted_part-returns-in_ok-add-in-Add-clause-id t c =
    let t0 = c.args.table.now in
    let r = shifting c.args.added c.args.cutoff in
    let t1 = c.shifted_term.new.table in
    let t2 = c.shifted_term-in-Add.new.table in
    let k1 = c.in_ok-left-in-Add.ensures.kept in
    let there : part_in t0 c.args.part ≡ term_part (S.Add (term_in t0 c.in-Add.left) (term_in t0 c.in-Add.right)) = search rules in
    let is : IsTerm t0 c.in-Add.right = search rules in
    let left = first_term r t0 t1 t2 c.in-Add.left c.in_ok-left-in-Add.left c.in_ok-right-in-Add.ensures.kept c.in_ok-left-in-Add.ensures.id in
    let right = second_term r (r) t0 t1 t2 c.in-Add.right c.in_ok-right-in-Add.right refl is k1 c.in_ok-right-in-Add.ensures.id in
    c.in_ok-add-in-Add.ensures.id ∙ ap (λ x. Some (term_part x)) (ap₂ S.Add left right) ∙ ap (λ p. Some (replaced_part r p)) (sym there)

pub shifted_part-returns-in_ok-subtract-in-Subtract-clause-id : goal.shifted_part-returns-in_ok-subtract-in-Subtract-clause-id
shifted_part-returns-in_ok-subtract-in-Subtract-clause-id t c =
    let t0 = c.args.table.now in
    let r = shifting c.args.added c.args.cutoff in
    let t1 = c.shifted_term-in-Subtract.new.table in
    let t2 = c.shifted_term-in-Subtract-2.new.table in
    let k1 = c.in_ok-left-in-Subtract.ensures.kept in
    let there : part_in t0 c.args.part ≡ term_part (S.Subtract (term_in t0 c.in-Subtract.left) (term_in t0 c.in-Subtract.right)) = search rules in
    let is : IsTerm t0 c.in-Subtract.right = search rules in
    let left = first_term r t0 t1 t2 c.in-Subtract.left c.in_ok-left-in-Subtract.left c.in_ok-right-in-Subtract.ensures.kept c.in_ok-left-in-Subtract.ensures.id in
    let right = second_term r (r) t0 t1 t2 c.in-Subtract.right c.in_ok-right-in-Subtract.right refl is k1 c.in_ok-right-in-Subtract.ensures.id in
    c.in_ok-subtract-in-Subtract.ensures.id ∙ ap (λ x. Some (term_part x)) (ap₂ S.Subtract left right) ∙ ap (λ p. Some (replaced_part r p)) (sym there)

pub shifted_part-returns-in_ok-multiply-in-Multiply-clause-id : goal.shifted_part-returns-in_ok-multiply-in-Multiply-clause-id
shifted_part-returns-in_ok-multiply-in-Multiply-clause-id t c =
    let t0 = c.args.table.now in
    let r = shifting c.args.added c.args.cutoff in
    let t1 = c.shifted_term-in-Multiply.new.table in
    let there : part_in t0 c.args.part ≡ term_part (S.Multiply c.in-Multiply.factor (term_in t0 c.in-Multiply.term)) = search rules in
    let inner = one_term r t0 t1 c.in-Multiply.term c.in_ok-term-in-Multiply.term c.in_ok-term-in-Multiply.ensures.id in
    let made : slice_get (parts c.multiply.new.self) c.in_ok-multiply-in-Multiply.field-0.0 ≡ Some (term_part (S.Multiply c.in-Multiply.factor (term_in t1 c.in_ok-term-in-Multiply.term))) = search rules in
    made ∙ ap (λ x. Some (term_part (S.Multiply c.in-Multiply.factor x))) inner ∙ ap (λ p. Some (replaced_part r p)) (sym there)

pub shifted_part-returns-in_ok-read-in-Read-clause-id : goal.shifted_part-returns-in_ok-read-in-Read-clause-id
shifted_part-returns-in_ok-read-in-Read-clause-id t c =
    let t0 = c.args.table.now in
    let r = shifting c.args.added c.args.cutoff in
    let t1 = c.shifted_column.new.table in
    let t2 = c.shifted_term-in-Read.new.table in
    let k1 = c.in_ok-column-in-Read.ensures.kept in
    let there : part_in t0 c.args.part ≡ term_part (S.Read (column_in t0 c.in-Read.column) (term_in t0 c.in-Read.index)) = search rules in
    let is : IsTerm t0 c.in-Read.index = search rules in
    let column = first_column r t0 t1 t2 c.in-Read.column c.in_ok-column-in-Read.column c.in_ok-index-in-Read.ensures.kept c.in_ok-column-in-Read.ensures.id in
    let index = second_term r (r) t0 t1 t2 c.in-Read.index c.in_ok-index-in-Read.index refl is k1 c.in_ok-index-in-Read.ensures.id in
    c.in_ok-read-in-Read.ensures.id ∙ ap (λ x. Some (term_part x)) (ap₂ S.Read column index) ∙ ap (λ p. Some (replaced_part r p)) (sym there)

pub shifted_column-stores-init : goal.shifted_column-stores-init
shifted_column-stores-init t c =
    let r = shifting c.args.added c.args.cutoff in
    let ts = c.args.table.now in (
      keeps_itself ts,
      c.requires.done,
      c.in_ok-chain.ensures.stores,
      subst (λ d. HasColumn ts c.below-moved.result (replace_column r d)) (sym c.in_ok-chain.ensures.below)
          (moved_below c.args.added c.args.cutoff ts c.args.done.now.entries c.in_ok-chain.chain.base c.below-moved.result c.in_ok-chain.chain.known c.requires.done c.in_ok-chain.ensures.is c.in_ok-chain.ensures.known
          c.in_ok-chain.ensures.base c.below-moved.ensures.known c.below-moved.ensures.base),
    )

pub shifted_column-shifted_store-requires : goal.shifted_column-shifted_store-requires
shifted_column-shifted_store-requires t c =
    let i = c.stores.invariant in
    let next = next_store (shifting c.args.added c.args.cutoff) c.args.table.now c.stores.table c.args.column c.stores.moved c.in-Some.store c.stores.chain.stores.items c.pop.new.self.items c.in-Some.ensures.items i.0 i.2 i.3 in
    let within = next.within in
    (omega arith, (next.there, (next.store, (next.below, i.1))))

pub shifted_column-stores-preserved : goal.shifted_column-stores-preserved
shifted_column-stores-preserved t c =
    let i = c.stores.invariant in
    let r = shifting c.args.added c.args.cutoff in
    let next = next_store r c.args.table.now c.stores.table c.args.column c.stores.moved c.in-Some.store c.stores.chain.stores.items c.pop.new.self.items c.in-Some.ensures.items i.0 i.2 i.3 in (
      kept_on c.args.table.now c.stores.table c.shifted_store.new.table i.0 c.in_ok-moved.ensures.kept,
      c.in_ok-moved.ensures.done,
      next.others,
      subst (λ d. HasColumn c.shifted_store.new.table c.in_ok-moved.moved (replace_column r d)) next.same c.in_ok-moved.ensures.id,
    )

pub shifted_column-returns-in_err-moved-clause-place : goal.shifted_column-returns-in_err-moved-clause-place
shifted_column-returns-in_err-moved-clause-place t c =
    let i = c.stores.invariant in
    let p = shift_fits c.args.added c.args.cutoff 0 in
    let t0 = c.args.table.now in
    let next = next_store (shifting c.args.added c.args.cutoff) t0 c.stores.table c.args.column c.stores.moved c.in-Some.store c.stores.chain.stores.items c.pop.new.self.items c.in-Some.ensures.items i.0 i.2 i.3 in
    handed_on c.from_residual-in_err-moved.result c.in_err-moved.field-0.0 (λ fault. fault ≡ NoPlace → column_passes p (column_in t0 c.args.column) ≡ false) c.from_residual-in_err-moved.ensures.1
    (λ e. below_stores_fails p (column_in t0 c.args.column) c.pop.new.self.items (subst (λ d. column_passes p d ≡ false) next.same (c.in_err-moved.ensures.place e)))

pub shifted_store-returns-clause-done : goal.shifted_store-returns-clause-done
shifted_store-returns-clause-done t c =
    let r = shifting c.args.added c.args.cutoff in
    let t0 = c.args.table.now in
    let t1 = c.shifted_term.new.table in
    let t2 = c.shifted_term-in-Store.new.table in
    let t3 = c.store.new.self in
    let k1 = c.in_ok-index-in-Store.ensures.kept in
    let k2 = c.in_ok-value-in-Store.ensures.kept in
    let there : column_in t0 c.args.store ≡ S.Store (column_in t0 c.in-Store.field-0) (term_in t0 c.in-Store.index) (term_in t0 c.in-Store.value) = search rules in
    let is : IsTerm t0 c.in-Store.value = search rules in
    let same = replaced_store r t0 t1 t2 c.args.store c.args.below (column_in t0 c.in-Store.field-0) c.in-Store.index c.in-Store.value c.in_ok-index-in-Store.index c.in_ok-value-in-Store.value there is k1 k2
    c.requires.below c.in_ok-index-in-Store.ensures.id c.in_ok-value-in-Store.ensures.id in
    store_noted r t0 t2 t3 c.shifted_term-in-Store.new.done.entries c.insert.new.self.entries c.args.store c.in_ok-number-in-Store.number c.requires.there (kept_on t0 t1 t2 k1 k2) c.in_ok-number-in-Store.ensures.kept
    c.in_ok-value-in-Store.ensures.done (c.in_ok-number-in-Store.ensures.id ∙ ap (λ x. Some (column_part x)) same) c.in_ok-insert-in-Store.ensures.updates.0
