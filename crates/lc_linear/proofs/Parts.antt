-- The forms of a term's parts, and the term's own.
use Rattle.std.proofs.Common.{◌≡◌, Some, None, refl, sym, ap, ap₂, subst, ◌∙◌, lit<, arith}
use Rattle.std.specs.Prelude.{ℤ, pos, ℕ, ◌+ℤ◌, ◌*ℤ◌, FitsSigned}
use Rattle.std.specs.Int.{w128}
use Rattle.std.proofs.lemmas.Int.{ints}
use Rattle.lc_term.specs.Syntax as S
use Rattle.lc_linear.proofs.Weights.{HasForm-weight}
use Rattle.lc_linear.specs.Arithmetic.{CanAddScaled, added_scaled}
use Rattle.lc_linear.specs.Form.{Place, Form, number_form, atom_form, form_of, HasForm}

-- a term that is an atom
pub record IsAtom (t : S.Term) : Type 0 where
  pub alone : (p : Place) → atom_form t p ≡ form_of t p
  pub fits : HasForm t

pub IsAtom-Variable : (k : ℕ) → IsAtom (S.Variable k)
IsAtom-Variable k = record { alone = λ p. refl; fits = HasForm-weight (S.Variable k) (lit< tt) }

pub IsAtom-Bound : (k : ℕ) → IsAtom (S.Bound k)
IsAtom-Bound k = record { alone = λ p. refl; fits = HasForm-weight (S.Bound k) (lit< tt) }

pub IsAtom-Read : (c : S.Column) (i : S.Term) → IsAtom (S.Read c i)
IsAtom-Read c i = record { alone = λ p. refl; fits = HasForm-weight (S.Read c i) (lit< tt) }

pub number_form-zero : (p : Place) → number_form (pos 0) p ≡ pos 0
number_form-zero None = refl
number_form-zero (Some a) = refl

-- a product's form is that of 0 with k times its factor's form added
module _ (zero factor : Form) (n k : ℤ) (t u : S.Term) (is : u ≡ S.Multiply n t) (is_n : k ≡ n) (nothing : (p : Place) → zero p ≡ number_form (pos 0) p) (form : (p : Place) → factor p ≡ form_of t p) where
  product : (p : Place) → k *ℤ factor p ≡ n *ℤ form_of t p
  product p = ap₂ ◌*ℤ◌ is_n (form p)

  with_zero : (p : Place) → zero p +ℤ k *ℤ factor p ≡ n *ℤ form_of t p
  with_zero p =
      let z = nothing p in
      let none = number_form-zero p in
      let e = product p in
      omega (arith, ints)

  pub multiplied : (p : Place) → added_scaled zero k factor p ≡ form_of u p
  multiplied p = with_zero p ∙ sym (ap (λ x. form_of x p) is)

  pub HasForm-product : HasForm t → CanAddScaled zero k factor → HasForm u
  HasForm-product fits can = subst HasForm (sym is) (fits, λ p. subst (FitsSigned w128) (product p) (can p).0)

  pub product-HasForm : HasForm u → CanAddScaled zero k factor
  product-HasForm fits p =
      let all = subst HasForm is fits in
      (subst (FitsSigned w128) (sym (product p)) (all.1 p), subst (FitsSigned w128) (sym (with_zero p)) (all.1 p))
