-- Linear forms of terms with other columns, if no two columns become one.
use Rattle.std.proofs.Common.{◌≡◌, ℕ, ◌⊎◌, inl, inr, Bool, true, false, ◌&&◌, List, [], ◌∷◌, Option, Some, None, map, refl, sym, ap, ap₂, subst, ◌∙◌}
use Rattle.std.specs.Prelude.{ℤ, pos, ◌+ℤ◌, ◌-ℤ◌, ◌*ℤ◌, ◌<ℤ◌, FitsSigned, IsTrue, if◌then◌else◌}
use lib.IntN.{*ℤ-zero}
use Rattle.std.specs.Int.{w128}
use Rattle.std.proofs.lemmas.Bool.{false≢true}
use Rattle.lc_lemmas.proofs.Numbers.{zero_fits}
use Rattle.lc_linear.specs.Closing.{Entry, gap, is_allowed, are_allowed, combined_from, combined, Closes}
use Rattle.lc_linear.specs.Divided.{IsRoundedUp, IsDivided}
use Rattle.lc_linear.specs.Form.{atom_form, form_of, FormFits, HasForm}
use Rattle.lc_term.specs.Equal.{term_eq}
use Rattle.lc_term.specs.EqualLaws.{Decides-term_eq}
use Rattle.lc_term.specs.Syntax.{Term, Number, Variable, Bound, Add, Subtract, Multiply, Read, Column, Base, Store, Affine, Formula, Le, Eq}
use Rattle.lc_carry.proofs.Moved.{moved_term, moved_column, moved}
use Rattle.lc_carry.specs.Renaming.{column_or}

-- with columns that are put back again
module _ (to : ℕ → Option ℕ) (back : ℕ → ℕ) (undone : (k : ℕ) → back (column_or to k) ≡ k) where
  abbrev returning : ℕ → Option ℕ
  returning k = Some (back k)

  mutual
    returned : (t : Term) → moved_term returning (moved_term to t) ≡ t
    returned (Number n) = refl
    returned (Variable k) = refl
    returned (Bound k) = refl
    returned (Add t u) = ap₂ Add (returned t) (returned u)
    returned (Subtract t u) = ap₂ Subtract (returned t) (returned u)
    returned (Multiply n t) = ap (Multiply n) (returned t)
    returned (Read c i) = ap₂ Read (returned_column c) (returned i)

    returned_column : (c : Column) → moved_column returning (moved_column to c) ≡ c
    returned_column (Base c) = ap Base (undone c)
    returned_column (Store c i v) = let a = returned_column c in let b = returned i in let d = returned v in λ x. Store (a x) (b x) (d x)
    returned_column (Affine a b) = refl

  same_term : (a b : Term) → moved_term to a ≡ moved_term to b → a ≡ b
  same_term a b e = sym (returned a) ∙ (ap (moved_term returning) e ∙ returned b)

  -- two terms are the same exactly if they are with other columns
  term_eq-by : (a b : Term) (s : Bool) → term_eq a b ≡ s → term_eq (moved_term to a) (moved_term to b) ≡ s
  term_eq-by a b true e = (Decides-term_eq (moved_term to a) (moved_term to b)).1 (ap (moved_term to) ((Decides-term_eq a b).0 e))
  term_eq-by a b false e = other (term_eq (moved_term to a) (moved_term to b)) refl
    where
      other : (s : Bool) → term_eq (moved_term to a) (moved_term to b) ≡ s → term_eq (moved_term to a) (moved_term to b) ≡ false
      other false f = f
      other true f =
          let same = same_term a b ((Decides-term_eq (moved_term to a) (moved_term to b)).0 f) in
          absurd (false≢true (sym e ∙ (Decides-term_eq a b).1 same))

  term_eq-moved : (a b : Term) → term_eq (moved_term to a) (moved_term to b) ≡ term_eq a b
  term_eq-moved a b = term_eq-by a b (term_eq a b) refl

  atom-moved : (x a : Term) → atom_form (moved_term to x) (Some (moved_term to a)) ≡ atom_form x (Some a)
  atom-moved x a = ap (λ b. if b then pos 1 else pos 0) (term_eq-moved a x)

  -- the coefficient of an atom
  form-moved : (t a : Term) → form_of (moved_term to t) (Some (moved_term to a)) ≡ form_of t (Some a)
  form-moved (Number n) a = refl
  form-moved (Variable k) a = atom-moved (Variable k) a
  form-moved (Bound k) a = atom-moved (Bound k) a
  form-moved (Add t u) a = ap₂ ◌+ℤ◌ (form-moved t a) (form-moved u a)
  form-moved (Subtract t u) a = ap₂ ◌-ℤ◌ (form-moved t a) (form-moved u a)
  form-moved (Multiply n t) a = ap (λ z. n *ℤ z) (form-moved t a)
  form-moved (Read c i) a = atom-moved (Read c i) a

  -- the constant
  form_None-moved : (t : Term) → form_of (moved_term to t) None ≡ form_of t None
  form_None-moved (Number n) = refl
  form_None-moved (Variable k) = refl
  form_None-moved (Bound k) = refl
  form_None-moved (Add t u) = ap₂ ◌+ℤ◌ (form_None-moved t) (form_None-moved u)
  form_None-moved (Subtract t u) = ap₂ ◌-ℤ◌ (form_None-moved t) (form_None-moved u)
  form_None-moved (Multiply n t) = ap (λ z. n *ℤ z) (form_None-moved t)
  form_None-moved (Read c i) = refl

  -- an atom is one of a term with these columns, or its coefficient is 0
  abbrev IsElse : Term → ℤ → Type 0
  IsElse b n = ((a : Term) × (moved_term to a ≡ b)) ⊎ (n ≡ pos 0)

  atom_else : (x b : Term) (s : Bool) → term_eq b (moved_term to x) ≡ s → IsElse b (atom_form (moved_term to x) (Some b))
  atom_else x b true e = inl (x, sym ((Decides-term_eq b (moved_term to x)).0 e))
  atom_else x b false e = inr (ap (λ s. if s then pos 1 else pos 0) e)

  both_else : (f g h : ℤ) (b : Term) → (f ≡ pos 0 → g ≡ pos 0 → h ≡ pos 0) → IsElse b f → IsElse b g
      → IsElse b h
  both_else f g h b by (inl x) y = inl x
  both_else f g h b by (inr x) (inl y) = inl y
  both_else f g h b by (inr x) (inr y) = inr (by x y)

  form_else : (t b : Term) → IsElse b (form_of (moved_term to t) (Some b))
  form_else (Number n) b = inr refl
  form_else (Variable k) b = atom_else (Variable k) b (term_eq b (Variable k)) refl
  form_else (Bound k) b = atom_else (Bound k) b (term_eq b (Bound k)) refl
  form_else (Add t u) b =
      both_else (form_of (moved_term to t) (Some b)) (form_of (moved_term to u) (Some b)) (form_of (moved_term to (Add t u)) (Some b)) b
      (λ e f. ap₂ ◌+ℤ◌ e f) (form_else t b) (form_else u b)
  form_else (Subtract t u) b =
      both_else (form_of (moved_term to t) (Some b)) (form_of (moved_term to u) (Some b)) (form_of (moved_term to (Subtract t u)) (Some b)) b
      (λ e f. ap₂ ◌-ℤ◌ e f) (form_else t b) (form_else u b)
  form_else (Multiply n t) b =
      both_else (form_of (moved_term to t) (Some b)) (form_of (moved_term to t) (Some b)) (form_of (moved_term to (Multiply n t)) (Some b)) b
      (λ e f. ap (λ z. n *ℤ z) e ∙ *ℤ-zero n) (form_else t b) (form_else t b)
  form_else (Read c i) b = atom_else (Read c i) b (term_eq b (moved_term to (Read c i))) refl

  -- ---- forms in 128 bits

  fits_at : (t b : Term) → FormFits t → IsElse b (form_of (moved_term to t) (Some b)) → FitsSigned w128 (form_of (moved_term to t) (Some b))
  fits_at t b h (inl (a, e)) = subst (λ x. FitsSigned w128 (form_of (moved_term to t) (Some x))) e (subst (FitsSigned w128) (sym (form-moved t a)) (h (Some a)))
  fits_at t b h (inr e) = subst (FitsSigned w128) (sym e) zero_fits

  fits-moved : (t : Term) → FormFits t → FormFits (moved_term to t)
  fits-moved t h None = subst (FitsSigned w128) (sym (form_None-moved t)) (h None)
  fits-moved t h (Some b) = fits_at t b h (form_else t b)

  pub has_form-moved : (t : Term) → HasForm t → HasForm (moved_term to t)
  has_form-moved (Number n) h = fits-moved (Number n) h
  has_form-moved (Variable k) h = fits-moved (Variable k) h
  has_form-moved (Bound k) h = fits-moved (Bound k) h
  has_form-moved (Add t u) h = (has_form-moved t h.0, has_form-moved u h.1, fits-moved (Add t u) h.2)
  has_form-moved (Subtract t u) h = (has_form-moved t h.0, has_form-moved u h.1, fits-moved (Subtract t u) h.2)
  has_form-moved (Multiply n t) h = (has_form-moved t h.0, fits-moved (Multiply n t) h.1)
  has_form-moved (Read c i) h = fits-moved (Read c i) h

  -- ---- sums that close

  abbrev pub moved_entry : Entry → Entry
  moved_entry e = (moved to e.0, e.1)

  gap-moved : (f : Formula) → moved_term to (gap f) ≡ gap (moved to f)
  gap-moved (Le t u) = refl
  gap-moved (Eq t u) = refl
  gap-moved _ = refl

  combined-moved : (t : Term) (es : List Entry) → moved_term to (combined_from t es) ≡ combined_from (moved_term to t) (map moved_entry es)
  combined-moved t [] = refl
  combined-moved t (e ∷ es) =
      combined-moved (Add t (Multiply e.1 (gap e.0))) es ∙ ap (λ g. combined_from (Add (moved_term to t) (Multiply e.1 g)) (map moved_entry es)) (gap-moved e.0)

  allowed-moved : (f : Formula) (k : ℤ) → is_allowed (moved to f) k ≡ is_allowed f k
  allowed-moved (Le t u) k = refl
  allowed-moved (Eq t u) k = refl
  allowed-moved _ k = refl

  are_allowed-moved : (es : List Entry) → are_allowed (map moved_entry es) ≡ are_allowed es
  are_allowed-moved [] = refl
  are_allowed-moved (e ∷ es) = ap₂ (λ a b. a && b) (allowed-moved e.0 e.1) (are_allowed-moved es)

  vanishes_at : (t b : Term) → ((a : Term) → form_of t (Some a) ≡ pos 0) → IsElse b (form_of (moved_term to t) (Some b)) → form_of (moved_term to t) (Some b) ≡ pos 0
  vanishes_at t b h (inl (a, e)) = subst (λ x. form_of (moved_term to t) (Some x) ≡ pos 0) e (form-moved t a ∙ h a)
  vanishes_at t b h (inr e) = e

  pub closes-moved : (es : List Entry) → Closes es → Closes (map moved_entry es)
  closes-moved es h =
      let same : moved_term to (combined es) ≡ combined (map moved_entry es) = combined-moved (Number (pos 0)) es in
      record {
        allowed = subst IsTrue (sym (are_allowed-moved es)) h.allowed;
        fits = subst HasForm same (has_form-moved (combined es) h.fits);
        vanishes = λ b. subst (λ t. form_of t (Some b) ≡ pos 0) same (vanishes_at (combined es) b h.vanishes (form_else (combined es) b));
        positive = subst (λ t. pos 0 <ℤ form_of t None) same (subst (λ z. pos 0 <ℤ z) (sym (form_None-moved (combined es))) h.positive);
      }

  -- ---- quotients

  divided_at : (t q b : Term) (k : ℤ) → ((a : Term) → form_of t (Some a) ≡ k *ℤ form_of q (Some a)) → IsElse b (form_of (moved_term to t) (Some b))
      → IsElse b (form_of (moved_term to q) (Some b)) → form_of (moved_term to t) (Some b) ≡ k *ℤ form_of (moved_term to q) (Some b)
  divided_at t q b k h (inl (a, e)) y =
      subst (λ x. form_of (moved_term to t) (Some x) ≡ k *ℤ form_of (moved_term to q) (Some x)) e (form-moved t a ∙ (h a ∙ ap (λ z. k *ℤ z) (sym (form-moved q a))))
  divided_at t q b k h (inr x) (inl (a, e)) =
      subst (λ x. form_of (moved_term to t) (Some x) ≡ k *ℤ form_of (moved_term to q) (Some x)) e (form-moved t a ∙ (h a ∙ ap (λ z. k *ℤ z) (sym (form-moved q a))))
  divided_at t q b k h (inr x) (inr y) = x ∙ sym (ap (λ z. k *ℤ z) y ∙ *ℤ-zero k)

  pub divided-moved : (t q : Term) (k : ℤ) → IsDivided (form_of t) k (form_of q) → IsDivided (form_of (moved_term to t)) k (form_of (moved_term to q))
  divided-moved t q k h = record {
    coefficients = λ b. divided_at t q b k h.coefficients (form_else t b) (form_else q b);
    constant = subst (λ d. IsRoundedUp d k (form_of (moved_term to q) None)) (sym (form_None-moved t)) (subst (λ n. IsRoundedUp (form_of t None) k n) (sym (form_None-moved q)) h.constant);
  }
