use Rattle.std.proofs.Common.{◌≡◌, ℕ, Some, Ok, refl, sym, subst, ◌⊎◌, inl, inr}
use Rattle.std.specs.Prelude.{ℤ}
use Rattle.lc_term.specs.Syntax.{Term, Column}
use Rattle.lc_reading.specs.Readings.{Reading, mapped}
use Rattle.lc_reading.specs.Parts.{IsThree}
use Rattle.lc_reading.specs.Results.{IsReading}
use Rattle.lc_text.specs.declared.words.Operation.{Operation}
use Rattle.lc_text.specs.declared.words.Operation.TheVariants.{Add, Subtract}
use Rattle.lc_sexp.specs.Shown.{rest_of, number_of, owner_of}
use Rattle.lc_reading.proofs.Combined.{two_parts, three_parts, headed_at}
use Rattle.lc_reading.specs.Words.{names_in}
use Rattle.lc_term.specs.View.{term_of, column_of}
use Rattle.lc_text.specs.Terms.{pair, triple, number_reading, term_reading, terms_reading, product_reading, access_reading, column_reading, numbers_reading, store_reading, sum_of, operation_reading, operation_with, built_with}
use Rattle.lc_text.proofs.+read_term.Goals as goal

pub term::read_bound_term-returns-in-Some : goal.term::read_bound_term-returns-in-Some
term::read_bound_term-returns-in-Some g t c =
    let names = g.S.Scope.names c.args.scope.now in
    let bound = names_in c.args.bound.now in
    headed_at term_of (term_reading names bound) (operation_with names bound c.in-Some.operation) _ _ c.in-List.list c.in_ok-word.operands c.in_ok-word.word.now _
    c.in-List.ensures.tree c.in-List.ensures.number c.in-List.ensures.placed c.in_ok-word.ensures (λ n ts. rw (sym c.in-Some.ensures) refl) c.read_operation.ensures

-- the sum or the difference of two terms
sum_with : (o : Operation) (n : ℕ) (terms : Reading (Term × Term)) (product : Reading (ℤ × Term)) (access : Reading (Column × Term)) → (o ≡ Add) ⊎ (o ≡ Subtract)
    → mapped (sum_of o) terms ≡ operation_reading n (Some o) terms product access
sum_with o n terms product access (inl e) = rw e refl
sum_with o n terms product access (inr e) = rw e refl

pub term::read_operation-returns-in-Add : goal.term::read_operation-returns-in-Add
term::read_operation-returns-in-Add g t c =
    let names = g.S.Scope.names c.args.scope.now in
    let bound = names_in c.args.bound.now in
    let terms = terms_reading names bound (owner_of c.args.list) (number_of c.args.list) (rest_of c.args.list) in
    subst (λ r. IsReading term_of r c.read_sum.result) (sum_with c.args.operation (owner_of c.args.list) terms _ _ c.in-Add.is) c.read_sum.ensures

pub term::read_operation-returns-in-Multiply : goal.term::read_operation-returns-in-Multiply
term::read_operation-returns-in-Multiply g t c = rw c.in-Multiply.is c.read_product.ensures

pub term::read_operation-returns-in-Read : goal.term::read_operation-returns-in-Read
term::read_operation-returns-in-Read g t c = rw c.in-Read.is c.read_access.ensures

pub term::read_sum-returns : goal.term::read_sum-returns
term::read_sum-returns g t c =
    let names = g.S.Scope.names c.args.scope.now in
    let bound = names_in c.args.bound.now in
    c.whole_sum.ensures (terms_reading names bound (owner_of c.args.list) (number_of c.args.list) (rest_of c.args.list))
    (two_parts term_of term_of pair (term_reading names bound) (term_reading names bound) (terms_reading names bound (owner_of c.args.list)) c.args.list c.in_ok-first.rest c.in_ok-first.first c.in_ok-first.second _ _ _ _
    c.in_ok-first.ensures c.read_bound_term-left.ensures c.read_bound_term-right.ensures refl refl (λ m ts. refl))

pub term::read_product-returns : goal.term::read_product-returns
term::read_product-returns g t c =
    let names = g.S.Scope.names c.args.scope.now in
    let bound = names_in c.args.bound.now in
    c.whole_product.ensures (product_reading names bound (owner_of c.args.list) (number_of c.args.list) (rest_of c.args.list))
    (two_parts (λ z. z) term_of pair number_reading (term_reading names bound) (product_reading names bound (owner_of c.args.list)) c.args.list c.in_ok-first.rest c.in_ok-first.first c.in_ok-first.second _ _ _ _
    c.in_ok-first.ensures c.read_number-factor.ensures c.read_bound_term-term.ensures refl refl (λ m ts. refl))

pub term::read_access-returns : goal.term::read_access-returns
term::read_access-returns g t c =
    let names = g.S.Scope.names c.args.scope.now in
    let bound = names_in c.args.bound.now in
    c.whole_access.ensures (access_reading names bound (owner_of c.args.list) (number_of c.args.list) (rest_of c.args.list))
    (two_parts column_of term_of pair (column_reading names bound (owner_of c.args.list)) (term_reading names bound) (access_reading names bound (owner_of c.args.list)) c.args.list c.in_ok-first.rest c.in_ok-first.first c.in_ok-first.second _ _ _ _
    c.in_ok-first.ensures (rw c.owner.ensures at c.read_bound_column-column.ensures) c.read_bound_term-index.ensures refl refl (λ m ts. refl))

pub column::read_bound_column-returns-in-Some : goal.column::read_bound_column-returns-in-Some
column::read_bound_column-returns-in-Some g t c =
    let names = g.S.Scope.names c.args.scope.now in
    let bound = names_in c.args.bound.now in
    headed_at column_of (column_reading names bound c.args.reader) (built_with names bound c.in-Some.built) _ _ c.in-List.list c.in_ok-word.operands c.in_ok-word.word.now _
    c.in-List.ensures.tree c.in-List.ensures.number c.in-List.ensures.placed c.in_ok-word.ensures (λ n ts. rw (sym c.in-Some.ensures) refl) c.read_built.ensures

pub column::read_built-returns-in-Affine : goal.column::read_built-returns-in-Affine
column::read_built-returns-in-Affine g t c =
    rw c.in-Affine.is (c.made_affine.ensures (numbers_reading (owner_of c.args.list) (number_of c.args.list) (rest_of c.args.list)) c.read_numbers.ensures)

pub column::read_built-returns-in-Store : goal.column::read_built-returns-in-Store
column::read_built-returns-in-Store g t c = rw c.in-Store.is c.read_store.ensures

pub column::read_store-returns : goal.column::read_store-returns
column::read_store-returns g t c =
    let names = g.S.Scope.names c.args.scope.now in
    let bound = names_in c.args.bound.now in
    let parts = c.deref.result.now in
    let three = subst (λ p. IsThree c.args.list (Ok p)) (sym c.deref.ensures) c.in_ok-parts.ensures in
    c.whole_store.ensures (store_reading names bound (owner_of c.args.list) (number_of c.args.list) (rest_of c.args.list))
    (three_parts column_of term_of term_of triple (column_reading names bound (owner_of c.args.list)) (term_reading names bound) (term_reading names bound)
    (store_reading names bound (owner_of c.args.list)) c.args.list parts.3 parts.0 parts.1 parts.2 _ _ _ _ _ _
    three (rw c.owner.ensures at c.read_bound_column.ensures) c.read_bound_term.ensures c.read_bound_term-2.ensures refl refl refl (λ m t u v ts. refl))
