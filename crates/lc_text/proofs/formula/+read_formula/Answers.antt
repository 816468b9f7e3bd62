use Rattle.std.proofs.Common.{◌≡◌, ℕ, Some, refl, sym, ap, ◌∙◌, subst, arith, ◌⊎◌, inl, inr}
use Rattle.lc_sexp.specs.Trees.{item_count_of_all}
use Rattle.lc_sexp.specs.Shown.{rest_of, number_of, owner_of}
use Rattle.lc_reading.proofs.Combined.{one_part, two_parts, headed_at, ok_arm, err_arm}
use Rattle.lc_reading.proofs.SoFar.{so_far_push}
use Rattle.lc_reading.specs.Parts.{tree_of}
use Rattle.lc_reading.specs.Readings.{Reading, mapped}
use Rattle.lc_reading.specs.Results.{IsReading}
use Rattle.lc_reading.specs.Words.{names_in}
use Rattle.lc_term.specs.Syntax.{Term, Formula, Formulas, more}
use Rattle.lc_term.specs.View.{formula_of}
use Rattle.lc_text.proofs.Rows.{formulas_more, formulas_end, unboxed_reads}
use Rattle.lc_text.specs.Seen.{boxed, unboxed}
use Rattle.lc_text.proofs.formula.+read_formula.Goals as goal
use Rattle.lc_text.specs.Formulas.{binder_reading, bound_inside, body_of, comparison_of, joined_by, quantified_by, formula_reading, formulas_reading, only_reading, both_reading, body_reading, connective_reading, connective_with}
use Rattle.lc_text.specs.Terms.{pair, terms_reading}
use Rattle.lc_text.specs.declared.words.Connective.{Connective}
use Rattle.lc_text.specs.declared.words.Connective.TheVariants.{Le, Eq, And, Or, Forall, Exists}

pub read_bound_formula-returns-in-Some-clause-read : goal.read_bound_formula-returns-in-Some-clause-read
read_bound_formula-returns-in-Some-clause-read g t c =
    let names = g.S.Scope.names c.args.scope.now in
    let bound = names_in c.args.bound.now.items in
    headed_at boxed (formula_reading names bound) (connective_with names bound c.in-Some.connective) _ _ c.in-List.list c.in_ok-word.parts c.in_ok-word.word.now _
    c.in-List.ensures.tree c.in-List.ensures.number c.in-List.ensures.placed c.in_ok-word.ensures (λ n ts. rw (sym c.in-Some.ensures) refl) c.read_connective.ensures.read

-- a comparison, a row and a quantifier, by what they begin with
comparison_with : (c : Connective) (n : ℕ) (terms : Reading (Term × Term)) (one : Reading Formula) (any : Reading Formulas) (two : Reading (Formula × Formula)) (body : Reading Formula)
    → (c ≡ Le) ⊎ (c ≡ Eq) → mapped (comparison_of c) terms ≡ connective_reading n (Some c) terms one any two body
comparison_with c n terms one any two body (inl e) = rw e refl
comparison_with c n terms one any two body (inr e) = rw e refl

row_with : (c : Connective) (n : ℕ) (terms : Reading (Term × Term)) (one : Reading Formula) (any : Reading Formulas) (two : Reading (Formula × Formula)) (body : Reading Formula)
    → (c ≡ And) ⊎ (c ≡ Or) → mapped (joined_by c) any ≡ connective_reading n (Some c) terms one any two body
row_with c n terms one any two body (inl e) = rw e refl
row_with c n terms one any two body (inr e) = rw e refl

quantifier_with : (c : Connective) (n : ℕ) (terms : Reading (Term × Term)) (one : Reading Formula) (any : Reading Formulas) (two : Reading (Formula × Formula)) (body : Reading Formula)
    → (c ≡ Forall) ⊎ (c ≡ Exists) → mapped (quantified_by c) body ≡ connective_reading n (Some c) terms one any two body
quantifier_with c n terms one any two body (inl e) = rw e refl
quantifier_with c n terms one any two body (inr e) = rw e refl

pub read_connective-returns-in-Le-clause-read : goal.read_connective-returns-in-Le-clause-read
read_connective-returns-in-Le-clause-read g t c =
    let names = g.S.Scope.names c.args.scope.now in
    let bound = names_in c.args.bound.now.items in
    let terms = terms_reading names bound (owner_of c.args.list) (number_of c.args.list) (rest_of c.args.list) in
    subst (λ r. IsReading boxed r c.read_comparison.result) (comparison_with c.args.connective (owner_of c.args.list) terms _ _ _ _ c.in-Le.is) (rw c.deref.ensures.value at c.read_comparison.ensures)

pub read_connective-returns-in-Not-clause-read : goal.read_connective-returns-in-Not-clause-read
read_connective-returns-in-Not-clause-read g t c = rw c.in-Not.is c.read_negation.ensures.read

pub read_connective-returns-in-And-clause-read : goal.read_connective-returns-in-And-clause-read
read_connective-returns-in-And-clause-read g t c =
    let names = g.S.Scope.names c.args.scope.now in
    let bound = names_in c.args.bound.now.items in
    subst (λ r. IsReading boxed r c.read_row.result) (row_with c.args.connective (owner_of c.args.list) _ _ (formulas_reading names bound (number_of c.args.list) (rest_of c.args.list)) _ _ c.in-And.is) c.read_row.ensures.read

pub read_connective-returns-in-Implies-clause-read : goal.read_connective-returns-in-Implies-clause-read
read_connective-returns-in-Implies-clause-read g t c = rw c.in-Implies.is c.read_implication.ensures.read

pub read_connective-returns-in-Forall-clause-read : goal.read_connective-returns-in-Forall-clause-read
read_connective-returns-in-Forall-clause-read g t c =
    let names = g.S.Scope.names c.args.scope.now in
    let bound = names_in c.args.bound.now.items in
    subst (λ r. IsReading boxed r c.read_quantifier.result) (quantifier_with c.args.connective (owner_of c.args.list) _ _ _ _ (body_reading names bound (owner_of c.args.list) (number_of c.args.list) (rest_of c.args.list)) c.in-Forall.is) c.read_quantifier.ensures.read

pub read_negation-returns-clause-read : goal.read_negation-returns-clause-read
read_negation-returns-clause-read g t c =
    let names = g.S.Scope.names c.args.scope.now in
    let bound = names_in c.args.bound.now.items in
    c.made_negation.ensures (only_reading names bound (owner_of c.args.list) (number_of c.args.list) (rest_of c.args.list)) c.read_only.ensures.read

pub read_row-returns-clause-read : goal.read_row-returns-clause-read
read_row-returns-clause-read g t c =
    let names = g.S.Scope.names c.args.scope.now in
    let bound = names_in c.args.bound.now.items in
    c.made_row.ensures (formulas_reading names bound (number_of c.args.list) (rest_of c.args.list)) c.read_bound_formulas.ensures.read

pub read_implication-returns-clause-read : goal.read_implication-returns-clause-read
read_implication-returns-clause-read g t c =
    let names = g.S.Scope.names c.args.scope.now in
    let bound = names_in c.args.bound.now.items in
    c.made_implication.ensures (both_reading names bound (owner_of c.args.list) (number_of c.args.list) (rest_of c.args.list)) c.read_both.ensures.read

pub read_quantifier-returns-clause-read : goal.read_quantifier-returns-clause-read
read_quantifier-returns-clause-read g t c =
    let names = g.S.Scope.names c.args.scope.now in
    let bound = names_in c.args.bound.now.items in
    c.made_quantifier.ensures (body_reading names bound (owner_of c.args.list) (number_of c.args.list) (rest_of c.args.list)) c.read_body.ensures.read

pub read_only-returns-clause-read : goal.read_only-returns-clause-read
read_only-returns-clause-read g t c =
    let names = g.S.Scope.names c.args.scope.now in
    let bound = names_in c.args.bound.now.items in
    one_part boxed (formula_reading names bound) (only_reading names bound (owner_of c.args.list)) c.args.list c.in_ok-part.rest c.in_ok-part.part _ _
    c.in_ok-part.ensures c.read_bound_formula-formula.ensures.read c.ended.ensures (λ m ts. refl)

pub read_both-returns-clause-read : goal.read_both-returns-clause-read
read_both-returns-clause-read g t c =
    let names = g.S.Scope.names c.args.scope.now in
    let bound = names_in c.args.bound.now.items in
    two_parts boxed boxed pair (formula_reading names bound) (formula_reading names bound) (both_reading names bound (owner_of c.args.list)) c.args.list c.in_ok-first.rest c.in_ok-first.first c.in_ok-first.second _ _ _ _
    c.in_ok-first.ensures c.read_bound_formula-left.ensures.read (rw c.read_bound_formula-left.ensures.bound at c.read_bound_formula-right.ensures.read) c.both.ensures c.ended.ensures (λ m ts. refl)

pub read_bound_formulas-returns-in_default-clause-read : goal.read_bound_formulas-returns-in_default-clause-read
read_bound_formulas-returns-in_default-clause-read g t c =
    let names = g.S.Scope.names c.args.scope.now in
    let bound = names_in c.args.bound.now.items in
    formulas_end _ _ c.parts.formulas (ap (formulas_reading names bound (number_of c.parts.rest)) c.in_default.ensures.1) c.parts.invariant.read

pub read_bound_formulas-parts-preserved : goal.read_bound_formulas-parts-preserved
read_bound_formulas-parts-preserved g t c =
    let names = g.S.Scope.names c.args.scope.now in
    let bound = names_in c.args.bound.now.items in
    let (at, next) = c.in-Ok.ensures in
    let more_left = formulas_more names bound c.parts.rest c.next_part.new.list c.in-Ok.part at next in
    let size = ap item_count_of_all next.rest in
    record {
      read = so_far_push formula_of more _ _ _ c.parts.formulas (unboxed c.read_bound_formula-formula.result) c.pushed_out-formulas.result
          (rw more_left at c.parts.invariant.read) (unboxed_reads _ _ (rw c.parts.invariant.kept at c.read_bound_formula-formula.ensures.read)) c.pushed_out-formulas.ensures;
      shorter = omega (arith, size, c.parts.invariant.shorter);
      kept = c.read_bound_formula-formula.ensures.bound ∙ c.parts.invariant.kept;
    }

pub read_body-returns-in_err-body-clause-read : goal.read_body-returns-in_err-body-clause-read
read_body-returns-in_err-body-clause-read g t c =
    let names = g.S.Scope.names c.args.scope.now in
    let bound = names_in c.args.bound.now.items in
    err_arm _ boxed _ _ _ _
    (two_parts (λ u. u) boxed body_of binder_reading (formula_reading names (bound_inside (tree_of c.in_ok-first.first) bound)) (body_reading names bound (owner_of c.args.list)) c.args.list c.in_ok-first.rest c.in_ok-first.first c.in_ok-first.second _ _ _ _
    c.in_ok-first.ensures c.read_binder-name.ensures c.read_inside-body.ensures.read c.both.ensures c.ended.ensures (λ m ts. refl))
    c.in_err-body.was c.from_residual-in_err-body.ensures.1

pub read_body-returns-clause-read : goal.read_body-returns-clause-read
read_body-returns-clause-read g t c =
    let names = g.S.Scope.names c.args.scope.now in
    let bound = names_in c.args.bound.now.items in
    ok_arm _ _ _ _
    (two_parts (λ u. u) boxed body_of binder_reading (formula_reading names (bound_inside (tree_of c.in_ok-first.first) bound)) (body_reading names bound (owner_of c.args.list)) c.args.list c.in_ok-first.rest c.in_ok-first.first c.in_ok-first.second _ _ _ _
    c.in_ok-first.ensures c.read_binder-name.ensures c.read_inside-body.ensures.read c.both.ensures c.ended.ensures (λ m ts. refl))
    c.in_ok-body.was
