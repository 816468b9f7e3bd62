-- A multiple of a form added entry by entry, and a form subtracted entry by entry.
use Rattle.std.proofs.Common.{◌≡◌, List, [], ◌∷◌, ◌++◌, Bool, true, false, Some, None, refl, sym, ap, subst, ◌∙◌, arith}
use Rattle.std.specs.Prelude.{ℤ, pos, negsuc, ◌+ℤ◌, ◌-ℤ◌, ◌*ℤ◌, FitsSigned, if◌then◌else◌}
use Rattle.std.specs.Int.{w128}
use Rattle.std.proofs.lemmas.Int.{ints}
use Rattle.lc_lemmas.proofs.Numbers.{scaled_zero, scaled_zero_fits}
use Rattle.lc_table.specs.declared.node.TermId.{TermId}
use Rattle.lc_linear.proofs.Ids.{Decides-is_same}
use Rattle.lc_linear.proofs.Products.{mul-add, mul-neg, mul_assoc, mul-one}
use Rattle.lc_linear.proofs.Distinct.{Absent, coefficient_in-absent, coefficient_in-middle, listed-snoc}
use Rattle.lc_linear.specs.Arithmetic.{CanAdd, CanAddScaled, CanSubtract, added_scaled, subtracted}
use Rattle.lc_linear.specs.Numbered.{Place, Form, is_same, number_form, atom_form, coefficient_in, listed}

-- a form that was `start`, with k times the entries es added
pub record Summed (start now : Form) (k : ℤ) (es : List (TermId × ℤ)) : Type 0 where
  pub sums : (p : Place) → now p ≡ start p +ℤ k *ℤ listed (pos 0) es p

-- k times each of them fits
pub record ProductsFit (k : ℤ) (es : List (TermId × ℤ)) : Type 0 where
  pub products : (p : Place) → FitsSigned w128 (k *ℤ listed (pos 0) es p)

listed-none : (p : Place) → listed (pos 0) [] p ≡ pos 0
listed-none None = refl
listed-none (Some a) = refl

pub nothing_summed : (start : Form) (k : ℤ) → Summed start start k []
nothing_summed start k = record { sums = λ p. rw (listed-none p) (omega (arith, ints)) }

pub no_products : (k : ℤ) → ProductsFit k []
no_products k = record { products = λ p. rw (listed-none p) (scaled_zero_fits k) }

module _ (k m : ℤ) (es : List (TermId × ℤ)) (x : TermId) (n : ℤ) (fresh : Absent x es) (is_m : m ≡ k *ℤ n) where
  product_here : ProductsFit k es → FitsSigned w128 m → (a : TermId) (here : Bool) → is_same a x ≡ here → FitsSigned w128 (k *ℤ (coefficient_in es a +ℤ n *ℤ (if here then pos 1 else pos 0)))
  product_here so_far fits a true is =
      let none : coefficient_in es a ≡ pos 0 = ap (coefficient_in es) ((Decides-is_same a x).0 is) ∙ coefficient_in-absent x es fresh in
      let one : coefficient_in es a +ℤ n *ℤ pos 1 ≡ n = omega (arith, ints) in
      subst (FitsSigned w128) (is_m ∙ ap (λ z. k *ℤ z) (sym one)) fits
  product_here so_far fits a false is =
      let one : coefficient_in es a +ℤ n *ℤ pos 0 ≡ coefficient_in es a = omega (arith, ints) in
      subst (FitsSigned w128) (ap (λ z. k *ℤ z) (sym one)) (so_far.products (Some a))

  -- one more product that fits
  pub one_more_product : ProductsFit k es → FitsSigned w128 m → ProductsFit k (es ++ (x, n) ∷ [])
  one_more_product so_far fits = record {
    products = elim [
      | None ↦ scaled_zero_fits k
      | Some a ↦ rw (listed-snoc es x n fresh (Some a)) (product_here so_far fits a (is_same a x) refl)
    ];
  }

  module _ (start now : Form) (so_far : Summed start now k es) where
    -- at the next atom nothing was added yet
    pub next_sum : now (Some x) ≡ start (Some x)
    next_sum =
        let none : k *ℤ coefficient_in es x ≡ pos 0 = rw (coefficient_in-absent x es fresh) (scaled_zero k) in
        let sum = so_far.sums (Some x) in
        omega (arith, ints)

    -- one more entry added
    pub one_more_summed : (new : Form) → ((p : Place) → new p ≡ now p +ℤ m *ℤ atom_form x p) → Summed start new k (es ++ (x, n) ∷ [])
    one_more_summed new step = record {
      sums = λ p.
          let sum = so_far.sums p in
          rw (listed-snoc es x n fresh p, mul-add k (listed (pos 0) es p) (n *ℤ atom_form x p), ← mul_assoc k n (atom_form x p), ← is_m) (step p ∙ omega (arith, ints));
    }

-- what can be added, or subtracted, at the next atom
module _ (f : Form) (c : ℤ) (all es : List (TermId × ℤ)) (x : TermId) (n : ℤ) (rest : List (TermId × ℤ)) (whole : all ≡ es ++ (x, n) ∷ rest) (fresh : Absent x es) where
  there : coefficient_in all x ≡ n
  there = ap (λ l. coefficient_in l x) whole ∙ coefficient_in-middle es x n rest fresh

  pub next_fits : (k : ℤ) → CanAddScaled f k (listed c all) → FitsSigned w128 (k *ℤ n) × FitsSigned w128 (f (Some x) +ℤ k *ℤ n)
  next_fits k can = (subst (λ z. FitsSigned w128 (k *ℤ z)) there (can (Some x)).0, subst (λ z. FitsSigned w128 (f (Some x) +ℤ k *ℤ z)) there (can (Some x)).1)

  pub next_difference_fits : CanSubtract f (listed c all) → FitsSigned w128 (f (Some x) -ℤ n)
  next_difference_fits can = subst (λ z. FitsSigned w128 (f (Some x) -ℤ z)) there (can (Some x))

-- the whole of a form added: its constant first, then each entry
module _ (f start now : Form) (k m c : ℤ) (all : List (TermId × ℤ)) (is_m : m ≡ k *ℤ c) (first : (p : Place) → start p ≡ f p +ℤ number_form m p) (added : Summed start now k all) where
  pub all_added : (p : Place) → now p ≡ added_scaled f k (listed c all) p
  all_added None =
      let a = added.sums None in
      let b = first None in
      let z = scaled_zero k in
      rw (← is_m) (omega (arith, ints))
  all_added (Some a) =
      let s = added.sums (Some a) in
      let b = first (Some a) in
      omega (arith, ints)

  pub all_fit : ProductsFit k all → FitsSigned w128 m → FitsSigned w128 (f None +ℤ m) → ((a : TermId) → FitsSigned w128 (now (Some a))) → CanAddScaled f k (listed c all)
  all_fit fit fits constant coefficients None = (subst (FitsSigned w128) is_m fits, subst (λ z. FitsSigned w128 (f None +ℤ z)) is_m constant)
  all_fit fit fits constant coefficients (Some a) = (fit.products (Some a), subst (FitsSigned w128) (all_added (Some a)) (coefficients a))

-- a form subtracted is -1 times that form added
pub minus-sum : (a n b : ℤ) → a -ℤ n *ℤ b ≡ a +ℤ (negsuc 0 *ℤ n) *ℤ b
minus-sum a n b =
    let one : negsuc 0 *ℤ n ≡ pos 0 -ℤ n = omega (arith, ints) in
    rw (one, mul-neg n b) (omega (arith, ints))

pub minus-zero : (a : ℤ) → a -ℤ pos 0 ≡ a
minus-zero a = omega (arith, ints)

minus-number : (n : ℤ) (p : Place) → (a : ℤ) → a -ℤ number_form n p ≡ a +ℤ number_form (negsuc 0 *ℤ n) p
minus-number n None a = omega (arith, ints)
minus-number n (Some x) a = omega (arith, ints)

pub all_subtracted : (f start now : Form) (c : ℤ) (all : List (TermId × ℤ)) → ((p : Place) → start p ≡ f p -ℤ number_form c p) → Summed start now (negsuc 0) all →
    (p : Place) → now p ≡ subtracted f (listed c all) p
all_subtracted f start now c all first added p =
    all_added f start now (negsuc 0) (negsuc 0 *ℤ c) c all refl (λ q. first q ∙ minus-number c q (f q)) added p ∙ omega (arith, ints)

-- what fits at each place
pub fits_at : (f : Form) → FitsSigned w128 (f None) → ((a : TermId) → FitsSigned w128 (f (Some a))) → (p : Place) → FitsSigned w128 (f p)
fits_at f constant coefficients None = constant
fits_at f constant coefficients (Some a) = coefficients a

pub +ℤ-comm : (a b : ℤ) → a +ℤ b ≡ b +ℤ a
+ℤ-comm a b = omega (arith, ints)

-- to add a form is to add it once
pub add_once : (f g : Form) → ((p : Place) → FitsSigned w128 (g p)) → CanAdd f g → CanAddScaled f (pos 1) g
add_once f g fits can p = (rw (mul-one (g p)) (fits p), rw (mul-one (g p)) (can p))

pub added_once : (f g : Form) → CanAddScaled f (pos 1) g → CanAdd f g
added_once f g can p = rw mul-one at (can p).1

pub add-comm : (f g : Form) → CanAdd f g → CanAdd g f
add-comm f g can p = subst (FitsSigned w128) (+ℤ-comm (f p) (g p)) (can p)
