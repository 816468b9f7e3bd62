use Rattle.std.proofs.Common.{rules, ◌≡◌, true, ap₂, ◌∙◌}
use Rattle.lc_term.specs.Equal.{term_eq, column_eq}
use Rattle.lc_term.specs.Syntax as S
use Rattle.lc_term.specs.View.{term_of, column_of}
use Rattle.lc_term.specs.declared.term.ColExpr.{the_lemmas}
use Rattle.lc_term.proofs.Chained.{same_store}
use Rattle.lc_term.proofs.term.+is_same_term.Goals as goal

pub is_same_column-stores-preserved : goal.is_same_column-stores-preserved
is_same_column-stores-preserved t c =
    let mine : column_of c.stores.mine.now ≡ S.Store (column_of c.deref-mine.result.now) (term_of c.deref.result.now) (term_of c.deref-else-not-is_same_term.result.now) = search rules in
    let other : column_of c.stores.other.now ≡ S.Store (column_of c.deref-other.result.now) (term_of c.deref-in-Store-Store.result.now) (term_of c.deref-else-not-is_same_term-2.result.now) = search rules in
    let index : term_eq (term_of c.deref.result.now) (term_of c.deref-in-Store-Store.result.now) ≡ true = search rules in
    let value : term_eq (term_of c.deref-else-not-is_same_term.result.now) (term_of c.deref-else-not-is_same_term-2.result.now) ≡ true = search rules in (
      search (rules, the_lemmas),
      search (rules, the_lemmas),
      c.stores.invariant.2 ∙ ap₂ column_eq mine other ∙ same_store (column_of c.deref-mine.result.now) (column_of c.deref-other.result.now) (term_of c.deref.result.now) (term_of c.deref-in-Store-Store.result.now)
          (term_of c.deref-else-not-is_same_term.result.now) (term_of c.deref-else-not-is_same_term-2.result.now) index value,
    )
