-- Columns in place of others, below a quantifier.
use Rattle.std.proofs.Common.{◌≡◌, ℕ, zero, suc, refl, sym, ap, ◌∙◌}
use Rattle.std.specs.Prelude.{Option, Box}
use Rattle.std.specs.declared.alloc.Global.{Global}
use Rattle.lc_term.proofs.Views.{formula_of-Forall, formula_of-Exists}
use Rattle.lc_term.specs.Replacement.{under, under_bounds, replace}
use Rattle.lc_term.specs.Syntax as S
use Rattle.lc_term.specs.Syntax.{Bound, Variable, Base}
use Rattle.lc_term.specs.View.{formula_of}
use Rattle.lc_term.specs.declared.formula.Formula.{Formula, Forall, Exists}
use Rattle.lc_carry.specs.Renaming.{column_or, renaming}

same_bound : (k : ℕ) → under_bounds Bound k ≡ Bound k
same_bound zero = refl
same_bound (suc k) = refl

-- below a quantifier it is the same replacement
pub same_below : (to : ℕ → Option ℕ) → under (renaming to) ≡ renaming to
same_below to = λ i. record { columns = λ k. Base (column_or to k); variables = Variable; bounds = λ k. same_bound k i }

pub renamed_Forall : (to : ℕ → Option ℕ) (f : Formula) (body out : Box Formula Global) (a b : Formula) → f ≡ Forall body → a ≡ body.value → out.value ≡ b
    → formula_of b ≡ replace (renaming to) (formula_of a) → formula_of (Forall out) ≡ replace (renaming to) (formula_of f)
renamed_Forall to f body out a b is ea eb h =
    let seen = ap formula_of is ∙ formula_of-Forall body ∙ ap (λ x. S.Forall (formula_of x)) (sym ea) in
    formula_of-Forall out ∙ ap S.Forall (ap formula_of eb ∙ h ∙ ap (λ r. replace r (formula_of a)) (sym (same_below to))) ∙ sym (ap (replace (renaming to)) seen)

pub renamed_Exists : (to : ℕ → Option ℕ) (f : Formula) (body out : Box Formula Global) (a b : Formula) → f ≡ Exists body → a ≡ body.value → out.value ≡ b
    → formula_of b ≡ replace (renaming to) (formula_of a) → formula_of (Exists out) ≡ replace (renaming to) (formula_of f)
renamed_Exists to f body out a b is ea eb h =
    let seen = ap formula_of is ∙ formula_of-Exists body ∙ ap (λ x. S.Exists (formula_of x)) (sym ea) in
    formula_of-Exists out ∙ ap S.Exists (ap formula_of eb ∙ h ∙ ap (λ r. replace r (formula_of a)) (sym (same_below to))) ∙ sym (ap (replace (renaming to)) seen)
