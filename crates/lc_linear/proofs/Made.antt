-- Forms of trees that are made of those of their parts, as the code makes them over a table.
use Rattle.std.proofs.Common.{◌≡◌, Some, None, refl, sym, ap, subst, ◌∙◌, arith}
use Rattle.std.specs.Prelude.{ℤ, pos, ◌+ℤ◌, ◌-ℤ◌, ◌*ℤ◌, FitsSigned, Result}
use Rattle.std.specs.Int.{w128}
use Rattle.std.proofs.lemmas.Int.{ints}
use Rattle.lc_lemmas.proofs.Numbers.{zero_fits, scaled_zero, scaled_zero_fits}
use Rattle.lc_table.specs.NodeTables.{Table}
use Rattle.lc_term.specs.Syntax.{Term, Number, Add, Subtract, Multiply}
use Rattle.lc_table.specs.Tables.{term_in, IsTerm}
use Rattle.lc_table.specs.declared.node.TermId.{TermId}
use Rattle.lc_linear.proofs.InTables.{IsExact, each_of_trees, each_kept, read_by, Reads-same, number_read, atom_read, Gives-map}
use Rattle.lc_linear.proofs.Multiples.{added_sum, added_difference, added_product}
use Rattle.lc_linear.proofs.Parts.{IsAtom, multiplied, HasForm-product, product-HasForm}
use Rattle.lc_linear.proofs.Sums.{turn_sum, turn_fits, turn_can}
use Rattle.lc_linear.specs.Arithmetic.{CanAdd, added, CanAddScaled, added_scaled, CanSubtract, subtracted}
use Rattle.lc_linear.specs.Form as T
use Rattle.lc_linear.specs.Form.{form_of, HasForm}
use Rattle.lc_linear.specs.LinForm.{numbers, HasNumbers, Reads, IsFormIn, AddsIn, Gives}
use Rattle.lc_linear.specs.Numbered as N
use Rattle.lc_linear.specs.declared.fault.LinFault.{LinFault}
use Rattle.lc_linear.specs.declared.form.LinForm.{LinForm}

added_zero : (k : ℤ) → pos 0 +ℤ k *ℤ pos 0 ≡ pos 0
added_zero k = omega (arith, ints)

zeros_add : (k : ℤ) → FitsSigned w128 (k *ℤ pos 0) × FitsSigned w128 (pos 0 +ℤ k *ℤ pos 0)
zeros_add k = (scaled_zero_fits k, subst (FitsSigned w128) (sym (added_zero k)) zero_fits)

-- a sum, or a difference, of two terms whose forms are made
module _ (ts : Table) (f g : N.Form) (l r t : Term) (first : Reads ts f (form_of l)) (second : Reads ts g (form_of r)) (fits_l : HasForm l) (fits_r : HasForm r) (res : Result LinForm LinFault) where
  pub sum_given : t ≡ Add l r → Gives res (CanAdd f g) (λ form. HasNumbers form (added f g)) → Gives res (HasForm t) (λ form. IsFormIn ts form (form_of t))
  sum_given is h =
      Gives-map _ _ _ _ res
      (λ can. subst HasForm (sym is) (fits_l, fits_r, each_of_trees ts f g (form_of l) (form_of r) first second (λ m n. FitsSigned w128 (m +ℤ n)) zero_fits can))
      (λ fits. each_kept ts f g (form_of l) (form_of r) first second (λ m n. FitsSigned w128 (m +ℤ n)) zero_fits (subst HasForm is fits).2)
      (λ form can has. Reads-same ts (added f g) (numbers form) (added (form_of l) (form_of r)) (form_of t) has (λ p. sym (ap (λ u. form_of u p) is))
      (read_by ts (λ m n. m +ℤ n) refl f g (form_of l) (form_of r) first second))
      h

  pub difference_given : t ≡ Subtract l r → Gives res (CanSubtract f g) (λ form. HasNumbers form (subtracted f g)) → Gives res (HasForm t) (λ form. IsFormIn ts form (form_of t))
  difference_given is h =
      Gives-map _ _ _ _ res
      (λ can. subst HasForm (sym is) (fits_l, fits_r, each_of_trees ts f g (form_of l) (form_of r) first second (λ m n. FitsSigned w128 (m -ℤ n)) zero_fits can))
      (λ fits. each_kept ts f g (form_of l) (form_of r) first second (λ m n. FitsSigned w128 (m -ℤ n)) zero_fits (subst HasForm is fits).2)
      (λ form can has. Reads-same ts (subtracted f g) (numbers form) (subtracted (form_of l) (form_of r)) (form_of t) has (λ p. sym (ap (λ u. form_of u p) is))
      (read_by ts (λ m n. m -ℤ n) refl f g (form_of l) (form_of r) first second))
      h

-- k times a form added to another one
module _ (ts : Table) (z f : N.Form) (zt ft : T.Form) (k : ℤ) (first : Reads ts z zt) (second : Reads ts f ft) where
  scaled_read : Reads ts (added_scaled z k f) (added_scaled zt k ft)
  scaled_read = read_by ts (λ m n. m +ℤ k *ℤ n) (added_zero k) z f zt ft first second

  pub can_of_trees : CanAddScaled z k f → CanAddScaled zt k ft
  can_of_trees can = each_of_trees ts z f zt ft first second (λ m n. FitsSigned w128 (k *ℤ n) × FitsSigned w128 (m +ℤ k *ℤ n)) (zeros_add k) can

  pub can_kept : CanAddScaled zt k ft → CanAddScaled z k f
  can_kept can = each_kept ts z f zt ft first second (λ m n. FitsSigned w128 (k *ℤ n) × FitsSigned w128 (m +ℤ k *ℤ n)) (zeros_add k) can

-- a product with a term whose form is made: k times that form is added to the form that is 0
pub product_given : (ts : Table) (z f : N.Form) (n k : ℤ) (l t : Term) (res : Result LinForm LinFault) → t ≡ Multiply n l → k ≡ n → ((p : N.Place) → z p ≡ N.number_form (pos 0) p) →
    Reads ts f (form_of l) → HasForm l → Gives res (CanAddScaled z k f) (λ form. HasNumbers form (added_scaled z k f)) → Gives res (HasForm t) (λ form. IsFormIn ts form (form_of t))
product_given ts z f n k l t res is is_k zero second fits_l h =
    let zt = T.number_form (pos 0) in
    let first : Reads ts z zt = Reads-same ts (N.number_form (pos 0)) z zt zt zero (λ p. refl) (number_read ts (pos 0)) in
    Gives-map _ _ _ _ res
    (λ can. HasForm-product zt (form_of l) n k l t is is_k (λ p. refl) (λ p. refl) fits_l (can_of_trees ts z f zt (form_of l) k first second can))
    (λ fits. can_kept ts z f zt (form_of l) k first second (product-HasForm zt (form_of l) n k l t is is_k (λ p. refl) (λ p. refl) fits))
    (λ form can has. Reads-same ts (added_scaled z k f) (numbers form) (added_scaled zt k (form_of l)) (form_of t) has (multiplied zt (form_of l) n k l t is is_k (λ p. refl) (λ p. refl))
    (scaled_read ts z f zt (form_of l) k first second))
    h

-- one turn of a loop over entries
module _ (ts : Table) (s h : N.Form) (whole so_far g : Term) (k k' : ℤ) (is : whole ≡ Add so_far (Multiply k g)) (is_k : k' ≡ k) (first : Reads ts s (form_of so_far)) (second : Reads ts h (form_of g)) where
  pub turn_kept : HasForm whole → CanAddScaled s k' h
  turn_kept fits = can_kept ts s h (form_of so_far) (form_of g) k' first second (turn_can whole so_far g k k' is is_k (form_of so_far) (form_of g) (λ p. refl) (λ p. refl) fits)

  pub turn_has_form : HasForm so_far → HasForm g → CanAddScaled s k' h → HasForm whole
  turn_has_form before gap can =
      turn_fits whole so_far g k k' is is_k (form_of so_far) (form_of g) (λ p. refl) (λ p. refl) before gap (can_of_trees ts s h (form_of so_far) (form_of g) k' first second can)

  pub turn_read : (form : LinForm) → HasNumbers form (added_scaled s k' h) → IsFormIn ts form (form_of whole)
  turn_read form has =
      Reads-same ts (added_scaled s k' h) (numbers form) (added_scaled (form_of so_far) k' (form_of g)) (form_of whole) has (turn_sum whole so_far g k k' is is_k (form_of so_far) (form_of g) (λ p. refl) (λ p. refl))
      (scaled_read ts s h (form_of so_far) (form_of g) k' first second)

-- a number, and an atom, alone
pub number_given : (ts : Table) (n m : ℤ) (t : Term) (form : LinForm) (z : N.Form) → t ≡ Number n → m ≡ n → ((p : N.Place) → z p ≡ N.number_form (pos 0) p) →
    HasNumbers form (λ p. z p +ℤ N.number_form m p) → IsFormIn ts form (form_of t)
number_given ts n m t form z is is_n zero has =
    Reads-same ts (N.number_form n) (numbers form) (T.number_form n) (form_of t) alone (λ p. sym (ap (λ u. form_of u p) is)) (number_read ts n)
  where
    at : (p : N.Place) → N.number_form (pos 0) p +ℤ N.number_form m p ≡ N.number_form n p
    at None = omega (arith, ints)
    at (Some a) = refl

    alone : (p : N.Place) → numbers form p ≡ N.number_form n p
    alone p = has p ∙ ap (λ x. x +ℤ N.number_form m p) (zero p) ∙ at p

one_more : (x : ℤ) → pos 0 +ℤ pos 1 *ℤ x ≡ x
one_more x = omega (arith, ints)

number_form-zero : (p : N.Place) → N.number_form (pos 0) p ≡ pos 0
number_form-zero None = refl
number_form-zero (Some a) = refl

pub atom_given : (ts : Table) → IsExact ts → (x : TermId) → IsTerm ts x → IsAtom (term_in ts x) → (form : LinForm) (z : N.Form) → ((p : N.Place) → z p ≡ N.number_form (pos 0) p) →
    HasNumbers form (λ p. z p +ℤ pos 1 *ℤ N.atom_form x p) → IsFormIn ts form (form_of (term_in ts x))
atom_given ts exact x is atom form z zero has =
    Reads-same ts (N.atom_form x) (numbers form) (T.atom_form (term_in ts x)) (form_of (term_in ts x))
    (λ p. has p ∙ ap (λ y. y +ℤ pos 1 *ℤ N.atom_form x p) (zero p ∙ number_form-zero p) ∙ one_more (N.atom_form x p)) atom.alone (atom_read ts exact x is)

-- k times a term's form, added part by part
module _ (ts : Table) (old new : LinForm) (t : Term) (k k' : ℤ) (is_k : k' ≡ k) where
  pub adds_number : (n m : ℤ) → t ≡ Number n → m ≡ k' *ℤ n → HasNumbers new (λ p. numbers old p +ℤ N.number_form m p) → AddsIn ts old new (λ p. k *ℤ form_of t p)
  adds_number n m is is_m has f h =
      Reads-same ts (λ p. numbers old p +ℤ N.number_form m p) (numbers new) (λ p. f p +ℤ T.number_form m p) (λ p. f p +ℤ k *ℤ form_of t p) has same
      (read_by ts (λ a b. a +ℤ b) refl (numbers old) (N.number_form m) f (T.number_form m) h (number_read ts m))
    where
      same : (p : T.Place) → f p +ℤ T.number_form m p ≡ f p +ℤ k *ℤ form_of t p
      same None = ap (λ x. f None +ℤ x) (is_m ∙ ap (λ x. x *ℤ n) is_k ∙ sym (ap (λ u. k *ℤ form_of u None) is))
      same (Some a) = ap (λ x. f (Some a) +ℤ x) (sym (scaled_zero k) ∙ sym (ap (λ u. k *ℤ form_of u (Some a)) is))

  pub adds_sum : (u v : Term) (mid : LinForm) → t ≡ Add u v → AddsIn ts old mid (λ p. k' *ℤ form_of u p) → AddsIn ts mid new (λ p. k' *ℤ form_of v p) → AddsIn ts old new (λ p. k *ℤ form_of t p)
  adds_sum u v mid is first second f h =
      Reads-same ts (numbers new) (numbers new) (λ p. f p +ℤ k' *ℤ form_of u p +ℤ k' *ℤ form_of v p) (λ p. f p +ℤ k *ℤ form_of t p) (λ p. refl)
      (λ p. added_sum p t k k' is_k (f p) (f p +ℤ k' *ℤ form_of u p +ℤ k' *ℤ form_of v p) u v (f p +ℤ k' *ℤ form_of u p) is refl refl) (second _ (first f h))

  pub adds_difference : (u v : Term) (mid : LinForm) (back : ℤ) → t ≡ Subtract u v → back ≡ pos 0 -ℤ k' → AddsIn ts old mid (λ p. k' *ℤ form_of u p) → AddsIn ts mid new (λ p. back *ℤ form_of v p) →
      AddsIn ts old new (λ p. k *ℤ form_of t p)
  adds_difference u v mid back is is_back first second f h =
      Reads-same ts (numbers new) (numbers new) (λ p. f p +ℤ k' *ℤ form_of u p +ℤ back *ℤ form_of v p) (λ p. f p +ℤ k *ℤ form_of t p) (λ p. refl)
      (λ p. added_difference p t k k' is_k (f p) (f p +ℤ k' *ℤ form_of u p +ℤ back *ℤ form_of v p) u v (f p +ℤ k' *ℤ form_of u p) back is refl is_back refl) (second _ (first f h))

  pub adds_product : (n m : ℤ) (u : Term) → t ≡ Multiply n u → m ≡ k' *ℤ n → AddsIn ts old new (λ p. m *ℤ form_of u p) → AddsIn ts old new (λ p. k *ℤ form_of t p)
  adds_product n m u is is_m once f h =
      Reads-same ts (numbers new) (numbers new) (λ p. f p +ℤ m *ℤ form_of u p) (λ p. f p +ℤ k *ℤ form_of t p) (λ p. refl)
      (λ p. added_product p t k k' is_k (f p) (f p +ℤ m *ℤ form_of u p) n m u is is_m refl) (once f h)

pub adds_atom : (ts : Table) → IsExact ts → (x : TermId) → IsTerm ts x → IsAtom (term_in ts x) → (old new : LinForm) (k : ℤ) → HasNumbers new (λ p. numbers old p +ℤ k *ℤ N.atom_form x p) →
    AddsIn ts old new (λ p. k *ℤ form_of (term_in ts x) p)
adds_atom ts exact x is atom old new k has f h =
    Reads-same ts (λ p. numbers old p +ℤ k *ℤ N.atom_form x p) (numbers new) (λ p. f p +ℤ k *ℤ T.atom_form (term_in ts x) p) (λ p. f p +ℤ k *ℤ form_of (term_in ts x) p) has
    (λ p. ap (λ y. f p +ℤ k *ℤ y) (atom.alone p)) (read_by ts (λ a b. a +ℤ k *ℤ b) (added_zero k) (numbers old) (N.atom_form x) f (T.atom_form (term_in ts x)) h (atom_read ts exact x is))

-- what is added to the form that is 0
pub added_alone : (ts : Table) (zero new : LinForm) (g : T.Form) → HasNumbers zero (N.number_form (pos 0)) → AddsIn ts zero new (λ p. pos 1 *ℤ g p) → IsFormIn ts new g
added_alone ts zero new g nothing adds =
    let start : IsFormIn ts zero (T.number_form (pos 0)) = Reads-same ts (N.number_form (pos 0)) (numbers zero) (T.number_form (pos 0)) (T.number_form (pos 0)) nothing (λ p. refl) (number_read ts (pos 0)) in
    Reads-same ts (numbers new) (numbers new) (λ p. T.number_form (pos 0) p +ℤ pos 1 *ℤ g p) g (λ p. refl) same (adds (T.number_form (pos 0)) start)
  where
    same : (p : T.Place) → T.number_form (pos 0) p +ℤ pos 1 *ℤ g p ≡ g p
    same None = one_more (g None)
    same (Some a) = one_more (g (Some a))

pub zero_read : (ts : Table) (zero : LinForm) → HasNumbers zero (N.number_form (pos 0)) → IsFormIn ts zero (form_of (Number (pos 0)))
zero_read ts zero nothing =
    Reads-same ts (N.number_form (pos 0)) (numbers zero) (T.number_form (pos 0)) (form_of (Number (pos 0))) nothing (λ p. refl) (number_read ts (pos 0))
