-- A replaced formula, from its replaced parts.
use Rattle.std.proofs.Common.{◌≡◌, ℕ, suc, IsTrue, sym, ap, ap₂, subst, ◌∙◌}
use Rattle.std.specs.Prelude.{Box}
use Rattle.std.specs.declared.alloc.Global.{Global}
use Rattle.std.proofs.lemmas.Bool.{and_parts}
use Rattle.lc_term.specs.Syntax as S
use Rattle.lc_term.specs.Places.{Test, passes}
use Rattle.lc_term.specs.Replacement.{Replacement, under, replace}
use Rattle.lc_term.specs.View.{formula_of}
use Rattle.lc_term.specs.declared.formula.Formula.{Formula, Implies, Forall, Exists}
use Rattle.lc_term.proofs.Views.{formula_of-Implies, formula_of-Forall, formula_of-Exists}

-- what passes, and becomes its replaced form if it does
abbrev pub IsReplaced : (ℕ → Test) → ℕ → Replacement → Formula → Formula → Type 0
IsReplaced p n r f g = IsTrue (passes p n (formula_of f)) → formula_of g ≡ replace r (formula_of f)

module _ (p : ℕ → Test) (n : ℕ) (r : Replacement) where
  seen_passes : (f : Formula) (t : S.Formula) → formula_of f ≡ t → IsTrue (passes p n (formula_of f)) → IsTrue (passes p n t)
  seen_passes f t e h = subst (λ x. IsTrue (passes p n x)) e h

  pub Implies-replaced : (f : Formula) (left right out_left out_right : Box Formula Global) (a b c d : Formula) → f ≡ Implies left right →
      a ≡ left.value → b ≡ right.value → out_left.value ≡ c → out_right.value ≡ d → IsReplaced p n r a c → IsReplaced p n r b d → IsReplaced p n r f (Implies out_left out_right)
  Implies-replaced f left right out_left out_right a b c d is ea eb ec ed ac bd h =
      let seen = ap formula_of is ∙ formula_of-Implies left right ∙ ap₂ (λ x y. S.Implies (formula_of x) (formula_of y)) (sym ea) (sym eb) in
      let both = and_parts (passes p n (formula_of a)) (passes p n (formula_of b)) (seen_passes f (S.Implies (formula_of a) (formula_of b)) seen h) in
      formula_of-Implies out_left out_right ∙ ap₂ S.Implies (ap formula_of ec ∙ ac both.0) (ap formula_of ed ∙ bd both.1) ∙ sym (ap (replace r) seen)

  pub Forall-replaced : (f : Formula) (body out : Box Formula Global) (a b : Formula) → f ≡ Forall body →
      a ≡ body.value → out.value ≡ b → IsReplaced p (suc n) (under r) a b → IsReplaced p n r f (Forall out)
  Forall-replaced f body out a b is ea eb ab h =
      let seen = ap formula_of is ∙ formula_of-Forall body ∙ ap (λ x. S.Forall (formula_of x)) (sym ea) in
      formula_of-Forall out ∙ ap S.Forall (ap formula_of eb ∙ ab (seen_passes f (S.Forall (formula_of a)) seen h)) ∙ sym (ap (replace r) seen)

  pub Exists-replaced : (f : Formula) (body out : Box Formula Global) (a b : Formula) → f ≡ Exists body →
      a ≡ body.value → out.value ≡ b → IsReplaced p (suc n) (under r) a b → IsReplaced p n r f (Exists out)
  Exists-replaced f body out a b is ea eb ab h =
      let seen = ap formula_of is ∙ formula_of-Exists body ∙ ap (λ x. S.Exists (formula_of x)) (sym ea) in
      formula_of-Exists out ∙ ap S.Exists (ap formula_of eb ∙ ab (seen_passes f (S.Exists (formula_of a)) seen h)) ∙ sym (ap (replace r) seen)
