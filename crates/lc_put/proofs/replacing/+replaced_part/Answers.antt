use Rattle.std.proofs.Common.{◌≡◌, ap, ap₂, sym, ◌∙◌, Some, rules, refl, slice_get, subst, arith}
use Rattle.lc_term.specs.Syntax as S
use Rattle.lc_table.specs.Nodes.{part_of, is_term, term as term_part, column as column_part}
use Rattle.lc_table.specs.Tables.{parts, term_in, column_in, IsTerm, HasColumn}
use Rattle.lc_put.specs.NodeReplacement.{as_part, part_in, replaced_part}
use Rattle.lc_table.proofs.Later.{kept_on, column_is, is_column_later, is_term_later, term_still}
use Rattle.lc_put.proofs.NodeReplacement.{one_term, first_term, second_term, first_column, node_later}
use Rattle.lc_term.specs.Replacement.{under_many, replace_column, replace_term}
use Rattle.lc_put.proofs.ReplacedStores.{next_store, replaced_store, column_part_at}
use Rattle.lc_put.proofs.Remembered.{stands_later, term_remembered, term_noted, column_noted}
use Rattle.std.proofs.lemmas.Result.{IfOk-weaker}
use Rattle.std.specs.Prelude.{IfOk}
use Rattle.lc_put.proofs.replacing.+replaced_part.Goals as goal

pub replaced_part-replaced_variable-requires-clause-there : goal.replaced_part-replaced_variable-requires-clause-there
replaced_part-replaced_variable-requires-clause-there g t c = c.part_node-node.ensures.tree ∙ ap (λ n. Some (part_of (parts c.args.table.now) n)) c.in-Variable.is

pub replaced_part-replaced_variable-requires-clause-put : goal.replaced_part-replaced_variable-requires-clause-put
replaced_part-replaced_variable-requires-clause-put g t c = c.requires.done.filled

pub replaced_part-returns-in-Variable-clause-id : goal.replaced_part-returns-in-Variable-clause-id
replaced_part-returns-in-Variable-clause-id g t c =
    let r = under_many c.args.depth g.R.Filled.replacement in
    let at = c.part_node-node.ensures.tree ∙ ap (λ n. Some (part_of (parts c.args.table.now) n)) c.in-Variable.is in
    IfOk-weaker c.replaced_variable.result _ _ (λ k h. h ∙ ap (λ o. Some (replaced_part r (as_part o))) (sym at)) c.replaced_variable.ensures.id

pub replaced_part-replaced_bound-requires-clause-there : goal.replaced_part-replaced_bound-requires-clause-there
replaced_part-replaced_bound-requires-clause-there g t c = c.part_node-node.ensures.tree ∙ ap (λ n. Some (part_of (parts c.args.table.now) n)) c.in-Bound.is

pub replaced_part-replaced_bound-requires-clause-put : goal.replaced_part-replaced_bound-requires-clause-put
replaced_part-replaced_bound-requires-clause-put g t c = c.requires.done.filled

pub replaced_part-returns-in-Bound-clause-id : goal.replaced_part-returns-in-Bound-clause-id
replaced_part-returns-in-Bound-clause-id g t c =
    let r = under_many c.args.depth g.R.Filled.replacement in
    let at = c.part_node-node.ensures.tree ∙ ap (λ n. Some (part_of (parts c.args.table.now) n)) c.in-Bound.is in
    IfOk-weaker c.replaced_bound.result _ _ (λ k h. h ∙ ap (λ o. Some (replaced_part r (as_part o))) (sym at)) c.replaced_bound.ensures.id

pub replaced_part-returns-in-Variable-clause-done : goal.replaced_part-returns-in-Variable-clause-done
replaced_part-returns-in-Variable-clause-done g t c = IfOk-weaker c.replaced_variable.result _ _ (λ k h. stands_later g.R.Filled.replacement c.args.put.now _ _ _ c.requires.done c.replaced_variable.ensures.kept) c.replaced_variable.ensures.id

pub replaced_part-returns-in-Bound-clause-done : goal.replaced_part-returns-in-Bound-clause-done
replaced_part-returns-in-Bound-clause-done g t c = IfOk-weaker c.replaced_bound.result _ _ (λ k h. stands_later g.R.Filled.replacement c.args.put.now _ _ _ c.requires.done c.replaced_bound.ensures.kept) c.replaced_bound.ensures.id

pub replaced_part-returns-in_ok-right-in-Add-clause-done : goal.replaced_part-returns-in_ok-right-in-Add-clause-done
replaced_part-returns-in_ok-right-in-Add-clause-done g t c = IfOk-weaker c.enter_changed.result _ _ (λ k h. stands_later g.R.Filled.replacement c.args.put.now _ _ _ c.in_ok-right-in-Add.ensures.done c.enter_changed.ensures.kept) c.enter_changed.ensures.part

pub replaced_part-returns-in_ok-right-in-Subtract-clause-done : goal.replaced_part-returns-in_ok-right-in-Subtract-clause-done
replaced_part-returns-in_ok-right-in-Subtract-clause-done g t c = IfOk-weaker c.enter_changed-in-Subtract.result _ _ (λ k h. stands_later g.R.Filled.replacement c.args.put.now _ _ _ c.in_ok-right-in-Subtract.ensures.done c.enter_changed-in-Subtract.ensures.kept) c.enter_changed-in-Subtract.ensures.part

pub replaced_part-returns-in_ok-term-in-Multiply-clause-done : goal.replaced_part-returns-in_ok-term-in-Multiply-clause-done
replaced_part-returns-in_ok-term-in-Multiply-clause-done g t c = IfOk-weaker c.enter_changed-in-Multiply.result _ _ (λ k h. stands_later g.R.Filled.replacement c.args.put.now _ _ _ c.in_ok-term-in-Multiply.ensures.done c.enter_changed-in-Multiply.ensures.kept) c.enter_changed-in-Multiply.ensures.part

pub replaced_part-returns-in_ok-index-in-Read-clause-done : goal.replaced_part-returns-in_ok-index-in-Read-clause-done
replaced_part-returns-in_ok-index-in-Read-clause-done g t c = IfOk-weaker c.enter_changed-in-Read.result _ _ (λ k h. stands_later g.R.Filled.replacement c.args.put.now _ _ _ c.in_ok-index-in-Read.ensures.done c.enter_changed-in-Read.ensures.kept) c.enter_changed-in-Read.ensures.part

pub replaced_part-returns-in_ok-right-in-Add-clause-id : goal.replaced_part-returns-in_ok-right-in-Add-clause-id
replaced_part-returns-in_ok-right-in-Add-clause-id g t c =
    let t0 = c.args.table.now in
    let r = under_many c.args.depth g.R.Filled.replacement in
    let t1 = c.replaced_term.new.table in
    let t2 = c.replaced_term-in-Add.new.table in
    let k1 = c.in_ok-left-in-Add.ensures.kept in
    let there : part_in t0 c.args.part ≡ term_part (S.Add (term_in t0 c.in-Add.left) (term_in t0 c.in-Add.right)) = search rules in
    let is : IsTerm t0 c.in-Add.right = search rules in
    let left = first_term r t0 t1 t2 c.in-Add.left c.in_ok-left-in-Add.left c.in_ok-right-in-Add.ensures.kept c.in_ok-left-in-Add.ensures.id in
    let right = second_term r (r) t0 t1 t2 c.in-Add.right c.in_ok-right-in-Add.right refl is k1 c.in_ok-right-in-Add.ensures.id in
    IfOk-weaker c.enter_changed.result _ _ (λ k h. h ∙ ap (λ x. Some (term_part x)) (ap₂ S.Add left right) ∙ ap (λ p. Some (replaced_part r p)) (sym there)) c.enter_changed.ensures.part

pub replaced_part-returns-in_ok-right-in-Subtract-clause-id : goal.replaced_part-returns-in_ok-right-in-Subtract-clause-id
replaced_part-returns-in_ok-right-in-Subtract-clause-id g t c =
    let t0 = c.args.table.now in
    let r = under_many c.args.depth g.R.Filled.replacement in
    let t1 = c.replaced_term-in-Subtract.new.table in
    let t2 = c.replaced_term-in-Subtract-2.new.table in
    let k1 = c.in_ok-left-in-Subtract.ensures.kept in
    let there : part_in t0 c.args.part ≡ term_part (S.Subtract (term_in t0 c.in-Subtract.left) (term_in t0 c.in-Subtract.right)) = search rules in
    let is : IsTerm t0 c.in-Subtract.right = search rules in
    let left = first_term r t0 t1 t2 c.in-Subtract.left c.in_ok-left-in-Subtract.left c.in_ok-right-in-Subtract.ensures.kept c.in_ok-left-in-Subtract.ensures.id in
    let right = second_term r (r) t0 t1 t2 c.in-Subtract.right c.in_ok-right-in-Subtract.right refl is k1 c.in_ok-right-in-Subtract.ensures.id in
    IfOk-weaker c.enter_changed-in-Subtract.result _ _ (λ k h. h ∙ ap (λ x. Some (term_part x)) (ap₂ S.Subtract left right) ∙ ap (λ p. Some (replaced_part r p)) (sym there)) c.enter_changed-in-Subtract.ensures.part

pub replaced_part-returns-in_ok-term-in-Multiply-clause-id : goal.replaced_part-returns-in_ok-term-in-Multiply-clause-id
replaced_part-returns-in_ok-term-in-Multiply-clause-id g t c =
    let t0 = c.args.table.now in
    let r = under_many c.args.depth g.R.Filled.replacement in
    let t1 = c.replaced_term-in-Multiply.new.table in
    let there : part_in t0 c.args.part ≡ term_part (S.Multiply c.in-Multiply.factor (term_in t0 c.in-Multiply.term)) = search rules in
    let inner = one_term r t0 t1 c.in-Multiply.term c.in_ok-term-in-Multiply.term c.in_ok-term-in-Multiply.ensures.id in
    let made : IfOk c.enter_changed-in-Multiply.result (λ k. slice_get (parts c.enter_changed-in-Multiply.new.table) k ≡ Some (term_part (S.Multiply c.in-Multiply.factor (term_in t1 c.in_ok-term-in-Multiply.term)))) = search rules in
    IfOk-weaker c.enter_changed-in-Multiply.result _ _ (λ k h. h ∙ ap (λ x. Some (term_part (S.Multiply c.in-Multiply.factor x))) inner ∙ ap (λ p. Some (replaced_part r p)) (sym there)) made

pub replaced_part-returns-in_ok-index-in-Read-clause-id : goal.replaced_part-returns-in_ok-index-in-Read-clause-id
replaced_part-returns-in_ok-index-in-Read-clause-id g t c =
    let t0 = c.args.table.now in
    let r = under_many c.args.depth g.R.Filled.replacement in
    let t1 = c.replaced_column.new.table in
    let t2 = c.replaced_term-in-Read.new.table in
    let k1 = c.in_ok-column-in-Read.ensures.kept in
    let there : part_in t0 c.args.part ≡ term_part (S.Read (column_in t0 c.in-Read.column) (term_in t0 c.in-Read.index)) = search rules in
    let is : IsTerm t0 c.in-Read.index = search rules in
    let column = first_column r t0 t1 t2 c.in-Read.column c.in_ok-column-in-Read.column c.in_ok-index-in-Read.ensures.kept c.in_ok-column-in-Read.ensures.id in
    let index = second_term r (r) t0 t1 t2 c.in-Read.index c.in_ok-index-in-Read.index refl is k1 c.in_ok-index-in-Read.ensures.id in
    IfOk-weaker c.enter_changed-in-Read.result _ _ (λ k h. h ∙ ap (λ x. Some (term_part x)) (ap₂ S.Read column index) ∙ ap (λ p. Some (replaced_part r p)) (sym there)) c.enter_changed-in-Read.ensures.part

pub replaced_part-enter_changed-requires-clause-there : goal.replaced_part-enter_changed-requires-clause-there
replaced_part-enter_changed-requires-clause-there g t c =
    node_later c.args.table.now c.replaced_term-in-Add.new.table c.args.part c.part_node-node.result c.part_node-node.ensures.tree c.part_node-node.ensures.fits
    (kept_on _ _ _ c.in_ok-left-in-Add.ensures.kept c.in_ok-right-in-Add.ensures.kept)
    ∙ ap (λ n. Some (part_of (parts c.replaced_term-in-Add.new.table) n)) c.in-Add.is

pub replaced_part-enter_changed-requires-in-Subtract-clause-there : goal.replaced_part-enter_changed-requires-in-Subtract-clause-there
replaced_part-enter_changed-requires-in-Subtract-clause-there g t c =
    node_later c.args.table.now c.replaced_term-in-Subtract-2.new.table c.args.part c.part_node-node.result c.part_node-node.ensures.tree c.part_node-node.ensures.fits
    (kept_on _ _ _ c.in_ok-left-in-Subtract.ensures.kept c.in_ok-right-in-Subtract.ensures.kept)
    ∙ ap (λ n. Some (part_of (parts c.replaced_term-in-Subtract-2.new.table) n)) c.in-Subtract.is

pub replaced_part-enter_changed-requires-in-Read-clause-there : goal.replaced_part-enter_changed-requires-in-Read-clause-there
replaced_part-enter_changed-requires-in-Read-clause-there g t c =
    node_later c.args.table.now c.replaced_term-in-Read.new.table c.args.part c.part_node-node.result c.part_node-node.ensures.tree c.part_node-node.ensures.fits
    (kept_on _ _ _ c.in_ok-column-in-Read.ensures.kept c.in_ok-index-in-Read.ensures.kept)
    ∙ ap (λ n. Some (part_of (parts c.replaced_term-in-Read.new.table) n)) c.in-Read.is

pub replaced_term-returns-in-Some-clause-id : goal.replaced_term-returns-in-Some-clause-id
replaced_term-returns-in-Some-clause-id g t c =
    term_remembered g.R.Filled.replacement c.args.table.now c.args.done.now c.args.term c.args.depth _ c.requires.done.remembers c.requires.there c.in-Some.ensures

pub replaced_term-returns-in_default-checked_sub : goal.replaced_term-returns-in_default-checked_sub
replaced_term-returns-in_default-checked_sub g t c =
    let r = under_many c.args.depth g.R.Filled.replacement in
    let kept = c.in_ok-replace_below.ensures.kept in
    let still = term_still c.args.table.now c.replace_below.new.table c.args.term c.requires.there kept in
    record {
      id = IfOk-weaker c.replaced_term.result _ _ (λ k h. h ∙ ap (λ x. Some (term_part (replace_term r x))) still) c.replaced_term.ensures.id;
      kept = kept_on _ _ _ kept c.replaced_term.ensures.kept;
      done = c.replaced_term.ensures.done;
    }

pub replaced_term-returns-clause-done : goal.replaced_term-returns-clause-done
replaced_term-returns-clause-done g t c =
    term_noted g.R.Filled.replacement c.args.table.now c.replaced_part.new.table c.args.put.now c.replaced_part.new.done c.note_part.new.self c.args.term c.args.depth _ c.requires.there c.in_ok-number.ensures.kept c.in_ok-number.ensures.done
    c.in_ok-number.ensures.id c.in_ok-note_part.ensures.parts c.in_ok-note_part.ensures.formulas

pub replaced_column-stores-init : goal.replaced_column-stores-init
replaced_column-stores-init g t c =
    let r = under_many c.args.depth g.R.Filled.replacement in (
      c.in_ok-replaced.ensures.kept,
      c.in_ok-replaced.ensures.done,
      c.in_ok-chain.ensures.stores,
      subst (λ d. HasColumn c.replaced_below.new.table c.in_ok-replaced.replaced (replace_column r d)) (sym c.in_ok-chain.ensures.below) c.in_ok-replaced.ensures.id,
    )

pub replaced_column-replaced_store-requires : goal.replaced_column-replaced_store-requires
replaced_column-replaced_store-requires g t c =
    let i = c.stores.invariant in
    let next = next_store (under_many c.args.depth g.R.Filled.replacement) c.args.table.now c.stores.table c.args.column c.stores.replaced c.in-Some.store c.stores.chain.stores.items c.pop.new.self.items c.in-Some.ensures.items i.0 i.2 i.3 in
    let within = next.within in
    λ κs lives. (omega arith, (lives, (next.there, (next.store, (next.below, i.1)))))

pub replaced_column-stores-preserved : goal.replaced_column-stores-preserved
replaced_column-stores-preserved g t c =
    let i = c.stores.invariant in
    let r = under_many c.args.depth g.R.Filled.replacement in
    let next = next_store r c.args.table.now c.stores.table c.args.column c.stores.replaced c.in-Some.store c.stores.chain.stores.items c.pop.new.self.items c.in-Some.ensures.items i.0 i.2 i.3 in (
      kept_on c.args.table.now c.stores.table c.replaced_store.new.table i.0 c.in_ok-replaced-2.ensures.kept,
      c.in_ok-replaced-2.ensures.done,
      next.others,
      subst (λ d. HasColumn c.replaced_store.new.table c.in_ok-replaced-2.replaced (replace_column r d)) next.same c.in_ok-replaced-2.ensures.id,
    )

pub replaced_store-enter_changed-requires-clause-there : goal.replaced_store-enter_changed-requires-clause-there
replaced_store-enter_changed-requires-clause-there g t c =
    node_later c.args.table.now c.replaced_term-in-Store.new.table c.args.store.0 c.part_node-node.result c.part_node-node.ensures.tree c.part_node-node.ensures.fits
    (kept_on _ _ _ c.in_ok-index-in-Store.ensures.kept c.in_ok-value-in-Store.ensures.kept)
    ∙ ap (λ n. Some (part_of (parts c.replaced_term-in-Store.new.table) n)) c.in-Store.is

pub replaced_store-enter_changed-requires-clause-fits : goal.replaced_store-enter_changed-requires-clause-fits
replaced_store-enter_changed-requires-clause-fits g t c =
    let t0 = c.args.table.now in
    let t1 = c.replaced_term.new.table in
    let t2 = c.replaced_term-in-Store.new.table in
    let k1 = c.in_ok-index-in-Store.ensures.kept in
    let k2 = c.in_ok-value-in-Store.ensures.kept in (
      is_column_later t0 t2 c.args.below _ c.requires.below (kept_on t0 t1 t2 k1 k2),
      is_term_later t1 t2 c.in_ok-index-in-Store.index _ c.in_ok-index-in-Store.ensures.id k2,
      ap is_term c.in_ok-value-in-Store.ensures.id,
    )

pub replaced_store-returns-clause-id : goal.replaced_store-returns-clause-id
replaced_store-returns-clause-id g t c =
    let t0 = c.args.table.now in
    let there = column_is t0 c.args.store _ (c.part_node-node.ensures.tree ∙ ap (λ n. Some (part_of (parts t0) n)) c.in-Store.is) in
    let is : IsTerm t0 c.in-Store.value = search rules in
    c.in_ok-number-in-Store.ensures.part
    ∙ ap (λ x. Some (column_part x)) (replaced_store (under_many c.args.depth g.R.Filled.replacement) t0 c.replaced_term.new.table c.replaced_term-in-Store.new.table c.args.store c.args.below (column_in t0 c.in-Store.field-0)
    c.in-Store.index c.in-Store.value c.in_ok-index-in-Store.index c.in_ok-value-in-Store.value there is c.in_ok-index-in-Store.ensures.kept c.in_ok-value-in-Store.ensures.kept c.requires.below
    c.in_ok-index-in-Store.ensures.id c.in_ok-value-in-Store.ensures.id)

pub replaced_store-returns-clause-done : goal.replaced_store-returns-clause-done
replaced_store-returns-clause-done g t c =
    let r = under_many c.args.depth g.R.Filled.replacement in
    let t0 = c.args.table.now in
    let t1 = c.replaced_term.new.table in
    let t2 = c.replaced_term-in-Store.new.table in
    let t3 = c.enter_changed.new.table in
    let k1 = c.in_ok-index-in-Store.ensures.kept in
    let k2 = c.in_ok-value-in-Store.ensures.kept in
    let k3 = c.in_ok-number-in-Store.ensures.kept in
    let there = column_is t0 c.args.store _ (c.part_node-node.ensures.tree ∙ ap (λ n. Some (part_of (parts t0) n)) c.in-Store.is) in
    let is : IsTerm t0 c.in-Store.value = search rules in
    let same = replaced_store r t0 t1 t2 c.args.store c.args.below (column_in t0 c.in-Store.field-0) c.in-Store.index c.in-Store.value c.in_ok-index-in-Store.index c.in_ok-value-in-Store.value there is k1 k2
    c.requires.below c.in_ok-index-in-Store.ensures.id c.in_ok-value-in-Store.ensures.id in
    let at = column_part_at r t0 t3 c.args.store (record { 0 = c.in_ok-number-in-Store.number }) c.requires.there (c.in_ok-number-in-Store.ensures.part ∙ ap (λ x. Some (column_part x)) same) in
    column_noted g.R.Filled.replacement t0 t3 c.args.put.now c.replaced_term-in-Store.new.done c.note_part.new.self c.args.store c.args.depth c.in_ok-number-in-Store.number c.requires.there
    (kept_on t0 t2 t3 (kept_on t0 t1 t2 k1 k2) k3) (stands_later g.R.Filled.replacement c.args.put.now t2 t3 _ c.in_ok-value-in-Store.ensures.done k3) at
    c.in_ok-note_part-in-Store.ensures.parts c.in_ok-note_part-in-Store.ensures.formulas
