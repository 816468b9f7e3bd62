-- What steps ask of linear forms is decided: a form has a number other than 0 only at the atoms of its term.
use Rattle.std.proofs.Common.{◌≡◌, ◌⊎◌, inl, inr, Bool, true, false, ◌||◌, IsTrue, Some, None, List, [], ◌∷◌, ◌++◌, refl, sym, ap, subst, ◌∙◌, arith, if◌then◌else◌}
use Rattle.std.specs.Prelude.{ℤ, pos, ◌+ℤ◌, ◌-ℤ◌, ◌*ℤ◌, ◌≤ℤ◌, ◌<ℤ◌, FitsSigned, int_div, int_rem, int_lt, ◌^◌}
use Rattle.std.specs.Int.{w128}
use Rattle.std.specs.Ordering.{int_eq}
use Rattle.std.proofs.lemmas.Bool.{false≢true}
use Rattle.std.proofs.lemmas.Bool.Decides.{Decides-int_eq}
use Rattle.std.proofs.lemmas.Int.{ints}
use Rattle.lc_lemmas.proofs.Numbers.{zero_fits, zero_scaled}
use Rattle.lc_term.specs.Equal.{term_eq}
use Rattle.lc_term.specs.EqualLaws.{Decides-term_eq}
use Rattle.lc_term.specs.Syntax.{Term, Number, Variable, Bound, Add, Subtract, Multiply, Read}
use Rattle.lc_linear.proofs.Division.{exact, no_remainder}
use Rattle.lc_linear.specs.Closing.{Entry, are_allowed, combined, Closes}
use Rattle.lc_linear.specs.Divided.{IsRoundedUp, Divides, IsDivided}
use Rattle.lc_linear.specs.Form.{Place, form_of, FormFits, HasForm}

abbrev pub Decision : Type 0 → Type 0
Decision P = P ⊎ (P → ⊥)

pub decision_of_both : {P Q : Type 0} → Decision P → Decision Q → Decision (P × Q)
decision_of_both (inl p) (inl q) = inl (p, q)
decision_of_both (inl p) (inr no') = inr (λ h. no' h.1)
decision_of_both (inr no') d = inr (λ h. no' h.0)

pub decided_as : {P Q : Type 0} → (P → Q) → (Q → P) → Decision P → Decision Q
decided_as to from (inl p) = inl (to p)
decided_as to from (inr no') = inr (λ q. no' (from q))

-- ---- numbers

equal_by : (a b : ℤ) (e : Bool) → int_eq a b ≡ e → Decision (a ≡ b)
equal_by a b true is = inl ((Decides-int_eq a b).0 is)
equal_by a b false is = inr (λ h. false≢true (sym is ∙ (Decides-int_eq a b).1 h))

equal : (a b : ℤ) → Decision (a ≡ b)
equal a b = equal_by a b (int_eq a b) refl

less_by : (a b : ℤ) (l : Bool) → int_lt a b ≡ l → Decision (a <ℤ b)
less_by a b true is = inl (grind (arith, ints))
less_by a b false is = inr (λ h. let l : a <ℤ b = h in grind (arith, ints))

less : (a b : ℤ) → Decision (a <ℤ b)
less a b = less_by a b (int_lt a b) refl

at_most : (a b : ℤ) → Decision (a ≤ℤ b)
at_most a b = decided_as (λ h. omega (arith, ints)) (λ h. omega (arith, ints)) (less a (b +ℤ pos 1))

-- ---- the atoms of a term

abbrev among : Term → List Term → Bool
among a [] = false
among a (x ∷ xs) = term_eq a x || among a xs

abbrev atoms : Term → List Term
atoms (Number n) = []
atoms (Variable k) = Variable k ∷ []
atoms (Bound k) = Bound k ∷ []
atoms (Add t u) = atoms t ++ atoms u
atoms (Subtract t u) = atoms t ++ atoms u
atoms (Multiply n t) = atoms t
atoms (Read c i) = Read c i ∷ []

neither : (a b : Bool) → a || b ≡ false → (a ≡ false) × (b ≡ false)
neither false b h = (refl, h)
neither true b h = cc

among-append : (a : Term) (xs ys : List Term) → among a (xs ++ ys) ≡ false → (among a xs ≡ false) × (among a ys ≡ false)
among-append a [] ys h = (refl, h)
among-append a (x ∷ xs) ys h =
    let n = neither (term_eq a x) (among a (xs ++ ys)) h in
    let r = among-append a xs ys n.1 in
    (rw n.0 r.0, r.1)

other_atom : (a x : Term) → among a (x ∷ []) ≡ false → (if term_eq a x then pos 1 else pos 0) ≡ pos 0
other_atom a x h = let n = neither (term_eq a x) false h in rw n.0 refl

-- what is no atom of the term has the coefficient 0
absent : (t a : Term) → among a (atoms t) ≡ false → form_of t (Some a) ≡ pos 0
absent (Number n) a h = refl
absent (Variable k) a h = other_atom a (Variable k) h
absent (Bound k) a h = other_atom a (Bound k) h
absent (Add t u) a h =
    let n = among-append a (atoms t) (atoms u) h in
    let e = absent t a n.0 in
    let g = absent u a n.1 in omega (arith, ints)
absent (Subtract t u) a h =
    let n = among-append a (atoms t) (atoms u) h in
    let e = absent t a n.0 in
    let g = absent u a n.1 in omega (arith, ints)
absent (Multiply n t) a h = ap (λ c. n *ℤ c) (absent t a h) ∙ omega (arith, ints)
absent (Read c i) a h = other_atom a (Read c i) h

-- ---- what holds of each atom

module _ (P : Term → Type 0) (decision : (a : Term) → Decision (P a)) where
  first_or : (x : Term) (xs : List Term) → P x → ((a : Term) → among a xs ≡ true → P a) → (a : Term) (b : Bool) → term_eq a x ≡ b → b || among a xs ≡ true → P a
  first_or x xs here rest a true same h = subst P (sym ((Decides-term_eq a x).0 same)) here
  first_or x xs here rest a false same h = rest a h

  first_among : (x : Term) (xs : List Term) → among x (x ∷ xs) ≡ true
  first_among x xs = rw ((Decides-term_eq x x).1 refl) refl

  later_among : (a x : Term) (xs : List Term) (b : Bool) → among a xs ≡ true → b || among a xs ≡ true
  later_among a x xs true h = refl
  later_among a x xs false h = h

  more_among : (x : Term) (xs : List Term) → Decision (P x) → Decision ((a : Term) → among a xs ≡ true → P a) → Decision ((a : Term) → among a (x ∷ xs) ≡ true → P a)
  more_among x xs (inl here) (inl rest) = inl (λ a h. first_or x xs here rest a (term_eq a x) refl h)
  more_among x xs (inl here) (inr no') = inr (λ all. no' (λ a h. all a (later_among a x xs (term_eq a x) h)))
  more_among x xs (inr no') d = inr (λ all. no' (all x (first_among x xs)))

  each_among : (xs : List Term) → Decision ((a : Term) → among a xs ≡ true → P a)
  each_among [] = inl (λ a h. absurd (false≢true h))
  each_among (x ∷ xs) = more_among x xs (decision x) (each_among xs)

  in_or_out : (xs : List Term) → ((a : Term) → among a xs ≡ true → P a) → ((a : Term) → among a xs ≡ false → P a) → (a : Term) (b : Bool) → among a xs ≡ b → P a
  in_or_out xs inside outside a true h = inside a h
  in_or_out xs inside outside a false h = outside a h

  -- what holds of all terms but these is decided
  pub of_all : (xs : List Term) → ((a : Term) → among a xs ≡ false → P a) → Decision ((a : Term) → P a)
  of_all xs outside = decided_as (λ inside a. in_or_out xs inside outside a (among a xs) refl) (λ all a h. all a) (each_among xs)

-- ---- forms

fits : (n : ℤ) → Decision (FitsSigned w128 n)
fits n = decided_as (λ h. let low = h.0 in let high = h.1 in omega (arith, ints)) (λ h. (omega (arith, ints), omega (arith, ints)))
    (decision_of_both (at_most (pos 0 -ℤ pos (2 ^ 127)) n) (less n (pos (2 ^ 127))))

at_places : (P : Place → Type 0) → P None × ((a : Term) → P (Some a)) → (p : Place) → P p
at_places P h None = h.0
at_places P h (Some a) = h.1 a

form_fits : (t : Term) → Decision (FormFits t)
form_fits t =
    decided_as (at_places (λ p. FitsSigned w128 (form_of t p))) (λ h. (h None, λ a. h (Some a)))
    (decision_of_both (fits (form_of t None)) (of_all (λ a. FitsSigned w128 (form_of t (Some a))) (λ a. fits (form_of t (Some a))) (atoms t) (λ a h. subst (FitsSigned w128) (sym (absent t a h)) zero_fits)))

three : {P Q R : Type 0} → Decision P → Decision Q → Decision R → Decision (P × Q × R)
three p q r = decided_as (λ h. (h.0, h.1.0, h.1.1)) (λ h. (h.0, (h.1, h.2))) (decision_of_both p (decision_of_both q r))

pub has_form : (t : Term) → Decision (HasForm t)
has_form (Number n) = form_fits (Number n)
has_form (Variable k) = form_fits (Variable k)
has_form (Bound k) = form_fits (Bound k)
has_form (Add t u) = three (has_form t) (has_form u) (form_fits (Add t u))
has_form (Subtract t u) = three (has_form t) (has_form u) (form_fits (Subtract t u))
has_form (Multiply n t) = decision_of_both (has_form t) (form_fits (Multiply n t))
has_form (Read c i) = form_fits (Read c i)

vanishes : (t : Term) → Decision ((a : Term) → form_of t (Some a) ≡ pos 0)
vanishes t = of_all (λ a. form_of t (Some a) ≡ pos 0) (λ a. equal (form_of t (Some a)) (pos 0)) (atoms t) (λ a h. absent t a h)

-- a sum that is allowed, and has a form, closes or does not
pub decision_closes : (es : List Entry) → IsTrue (are_allowed es) → HasForm (combined es) → Decision (Closes es)
decision_closes es allowed fits' =
    decided_as (λ h. record { allowed = allowed; fits = fits'; vanishes = h.0; positive = h.1 }) (λ c. (c.vanishes, c.positive))
    (decision_of_both (vanishes (combined es)) (less (pos 0) (form_of (combined es) None)))

-- a multiple of k, which is at least 1
multiple : (k : ℤ) → pos 1 ≤ℤ k → (a : ℤ) → Decision ((c : ℤ) × (a ≡ k *ℤ c))
multiple k positive a =
    decided_as (λ none. (int_div a k, exact a k positive none)) (λ h. no_remainder a k positive h.0 h.1) (equal (int_rem a k) (pos 0))

divides_by : (k : ℤ) (t : Term) → Decision (pos 1 ≤ℤ k) → Decision (Divides k (form_of t))
divides_by k t (inl positive) =
    decided_as (λ h. record { positive = positive; multiples = h }) (λ d. d.multiples)
    (of_all (λ a. (c : ℤ) × (form_of t (Some a) ≡ k *ℤ c)) (λ a. multiple k positive (form_of t (Some a))) (atoms t) (λ a h. (pos 0, absent t a h ∙ zero_scaled k)))
divides_by k t (inr no') = inr (λ d. no' d.positive)

pub decision_divides : (k : ℤ) (t : Term) → Decision (Divides k (form_of t))
decision_divides k t = divides_by k t (at_most (pos 1) k)

rounded_up : (d k n : ℤ) → Decision (IsRoundedUp d k n)
rounded_up d k n = decided_as (λ h. record { reaches = h.0; least = h.1 }) (λ r. (r.reaches, r.least)) (decision_of_both (at_most d (k *ℤ n)) (less (k *ℤ n) (d +ℤ k)))

pub is_divided : (t : Term) (k : ℤ) (q : Term) → Decision (IsDivided (form_of t) k (form_of q))
is_divided t k q =
    decided_as (λ h. record { coefficients = h.0; constant = h.1 }) (λ d. (d.coefficients, d.constant))
    (decision_of_both
    (of_all (λ a. form_of t (Some a) ≡ k *ℤ form_of q (Some a)) (λ a. equal (form_of t (Some a)) (k *ℤ form_of q (Some a))) (atoms t ++ atoms q)
    (λ a h. let n = among-append a (atoms t) (atoms q) h in absent t a n.0 ∙ zero_scaled k ∙ ap (λ c. k *ℤ c) (sym (absent q a n.1))))
    (rounded_up (form_of t None) k (form_of q None)))
