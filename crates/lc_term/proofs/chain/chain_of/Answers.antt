use Rattle.std.proofs.Common.{rules, ◌≡◌, ◌<◌, [], ◌∷◌, ◌++◌, sym, ap, subst, ◌∙◌}
use Rattle.std.proofs.lemmas.List.{map-append}
use Rattle.lc_term.specs.Chains.{with_stores, stored_of, stores_of, AreInside}
use Rattle.lc_term.specs.Syntax as S
use Rattle.lc_term.specs.View.{term_of, column_of}
use Rattle.lc_term.specs.declared.chain.StoreAt.{StoreAt}
use Rattle.lc_term.specs.declared.term.ColExpr.{ColExpr, size-ColExpr, the_lemmas}
use Rattle.lc_term.specs.declared.term.Term.{size-Term}
use Rattle.lc_term.proofs.Chained.{innermost_store, every_one_more}
use Rattle.lc_term.proofs.chain.chain_of.Goals as goal

-- both terms are inside the column expression
abbrev IsInside : ColExpr → StoreAt → Type 0
IsInside c s = (size-Term s.index.now < size-ColExpr c) × (size-Term s.value.now < size-ColExpr c)

pub stores-preserved : goal.stores-preserved
stores-preserved c =
    let i = c.stores.invariant in
    let store : StoreAt = record { index = c.deref.result; value = c.deref-in-Store.result } in
    let items : c.push.new.self.items ≡ c.stores.stores.items ++ store ∷ [] = search rules in
    let stored : column_of c.stores.base.now ≡ S.Store (column_of c.deref-base.result.now) (term_of c.deref.result.now) (term_of c.deref-in-Store.result.now) = search rules in
    let inside : IsInside c.args.column.now store = search (rules, the_lemmas) in (
      search (rules, the_lemmas),
      i.1 ∙ ap (λ d. with_stores d (stores_of c.stores.stores.items)) stored ∙ sym (
          ap (λ ss. with_stores (column_of c.deref-base.result.now) (stores_of ss)) items ∙
          ap (with_stores (column_of c.deref-base.result.now)) (map-append stored_of c.stores.stores.items (store ∷ [])) ∙
          innermost_store (column_of c.deref-base.result.now) (stores_of c.stores.stores.items) (stored_of store)),
      subst (AreInside c.args.column.now) (sym items) (every_one_more (IsInside c.args.column.now) c.stores.stores.items store i.2 inside),
    )
