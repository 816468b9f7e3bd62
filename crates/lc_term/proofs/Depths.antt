-- A test that is the same below each number of quantifiers gives the same answer for a formula at any depth.
use Rattle.std.proofs.Common.{◌≡◌, ℕ, suc, refl, sym, ap, ◌∙◌, inl, inr}
use Rattle.std.specs.Prelude.{◌⊎◌, Box}
use Rattle.std.specs.declared.alloc.Global.{Global}
use Rattle.lc_term.specs.Places.{Test, passes, all_pass}
use Rattle.lc_term.specs.Syntax as S
use Rattle.lc_term.specs.View.{formula_of}
use Rattle.lc_term.specs.declared.formula.Formula.{Formula, Forall, Exists}
use Rattle.lc_term.proofs.Views.{formula_of-Forall, formula_of-Exists}

mutual
  pub passes_anywhere : (t : Test) (n m : ℕ) (f : S.Formula) → passes (λ k. t) n f ≡ passes (λ k. t) m f
  passes_anywhere t n m (S.Le u v) = refl
  passes_anywhere t n m (S.Eq u v) = refl
  passes_anywhere t n m (S.Not f) = passes_anywhere t n m f
  passes_anywhere t n m (S.And fs) = all_pass_anywhere t n m fs
  passes_anywhere t n m (S.Or fs) = all_pass_anywhere t n m fs
  passes_anywhere t n m (S.Implies f g) = rw (passes_anywhere t n m f, passes_anywhere t n m g) refl
  passes_anywhere t n m (S.Forall f) = passes_anywhere t (suc n) (suc m) f
  passes_anywhere t n m (S.Exists f) = passes_anywhere t (suc n) (suc m) f

  pub all_pass_anywhere : (t : Test) (n m : ℕ) (fs : S.Formulas) → all_pass (λ k. t) n fs ≡ all_pass (λ k. t) m fs
  all_pass_anywhere t n m S.none = refl
  all_pass_anywhere t n m (S.more f fs) = rw (passes_anywhere t n m f, all_pass_anywhere t n m fs) refl

-- what a quantifier binds passes exactly if the whole does
pub body_passes : (t : Test) (f : Formula) (body : Box Formula Global) (a : Formula) → f ≡ Forall body ⊎ f ≡ Exists body → a ≡ body.value
    → passes (λ n. t) 0 (formula_of a) ≡ passes (λ n. t) 0 (formula_of f)
body_passes t f body a (inl is) at =
    ap (λ x. passes (λ n. t) 0 (formula_of x)) at ∙ passes_anywhere t 0 1 (formula_of body.value) ∙ sym (ap (passes (λ n. t) 0) (ap formula_of is ∙ formula_of-Forall body))
body_passes t f body a (inr is) at =
    ap (λ x. passes (λ n. t) 0 (formula_of x)) at ∙ passes_anywhere t 0 1 (formula_of body.value) ∙ sym (ap (passes (λ n. t) 0) (ap formula_of is ∙ formula_of-Exists body))
