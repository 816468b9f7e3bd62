-- A term's weight bounds each number of its form, so if it fits the form can be made.
use Rattle.std.proofs.Common.{◌≡◌, ℕ, Option, ◌+◌, ◌*◌, ◌^◌, ◌<◌, ◌≤◌, max, Bool, true, false, Some, None, arith, subst}
use Rattle.std.specs.Prelude.{ℤ, pos, ◌+ℤ◌, ◌-ℤ◌, ◌*ℤ◌, unsigned_abs, IfSome, IsSomeAnd, if◌then◌else◌}
use Rattle.std.specs.Int.{w128}
use Rattle.std.proofs.lemmas.Nat.{mul-le}
use Rattle.std.proofs.lemmas.Int.{ints, unsigned_abs-mul, fits_signed_from_abs}
use Rattle.lc_term.specs.Syntax.{Term, Number, Variable, Bound, Add, Subtract, Multiply, Read}
use Rattle.lc_term.specs.Equal.{term_eq}
use Rattle.lc_linear.specs.Form.{Place, form_of, atom_form, HasForm, FormFits}
use Rattle.lc_linear.specs.Weight.{weight}

abs-add : (a b : ℤ) → unsigned_abs (a +ℤ b) ≤ unsigned_abs a + unsigned_abs b
abs-add a b = omega (arith, ints)

abs-sub : (a b : ℤ) → unsigned_abs (a -ℤ b) ≤ unsigned_abs a + unsigned_abs b
abs-sub a b = omega (arith, ints)

-- an atom alone has coefficients 0 and 1
abs-atom : (p : Place) (x : Term) → unsigned_abs (atom_form x p) ≤ 1
abs-atom None x = omega arith
abs-atom (Some a) x = by (term_eq a x)
  where
    by : (here : Bool) → unsigned_abs (if here then pos 1 else pos 0) ≤ 1
    by true = omega arith
    by false = omega arith

abs-mul : (k n : ℤ) (w : ℕ) → unsigned_abs n ≤ w → unsigned_abs (k *ℤ n) ≤ max (unsigned_abs k) 1 * w
abs-mul k n w h = rw (unsigned_abs-mul k n) (mul-le (unsigned_abs k) (unsigned_abs n) (max (unsigned_abs k) 1) w (omega arith) h)

pub abs-form : (p : Place) (t : Term) → unsigned_abs (form_of t p) ≤ weight t
abs-form None (Number n) = omega arith
abs-form (Some a) (Number n) = omega arith
abs-form p (Variable k) = abs-atom p (Variable k)
abs-form p (Bound k) = abs-atom p (Bound k)
abs-form p (Add t u) = omega (arith, abs-add (form_of t p) (form_of u p), abs-form p t, abs-form p u)
abs-form p (Subtract t u) = omega (arith, abs-sub (form_of t p) (form_of u p), abs-form p t, abs-form p u)
abs-form p (Multiply n t) = abs-mul n (form_of t p) (weight t) (abs-form p t)
abs-form p (Read c i) = abs-atom p (Read c i)

form_fits : (t : Term) → weight t < 2 ^ 127 → FormFits t
form_fits t light p = fits_signed_from_abs w128 (form_of t p) (omega (arith, abs-form p t))

part_light : (n w : ℕ) → max n 1 * w < 2 ^ 127 → w < 2 ^ 127
part_light n w h =
    let once = mul-le 1 w (max n 1) w (omega arith) (omega arith) in omega (arith, once)

pub HasForm-weight : (t : Term) → weight t < 2 ^ 127 → HasForm t
HasForm-weight (Number n) h = form_fits (Number n) h
HasForm-weight (Variable k) h = form_fits (Variable k) h
HasForm-weight (Bound k) h = form_fits (Bound k) h
HasForm-weight (Add t u) h = (HasForm-weight t (omega arith), HasForm-weight u (omega arith), form_fits (Add t u) h)
HasForm-weight (Subtract t u) h = (HasForm-weight t (omega arith), HasForm-weight u (omega arith), form_fits (Subtract t u) h)
HasForm-weight (Multiply n t) h = (HasForm-weight t (part_light (unsigned_abs n) (weight t) h), form_fits (Multiply n t) h)
HasForm-weight (Read c i) h = form_fits (Read c i) h

-- what the code tests of a weight
pub HasForm-light : (o : Option ℕ) (light : Bool) (t : Term) → IfSome o (λ w. w ≡ weight t) → (light ≡ true → IsSomeAnd o (λ w. w < 2 ^ 127)) → light ≡ true → HasForm t
HasForm-light None light t is test h = elim (test h) [ ]
HasForm-light (Some w) light t is test h = HasForm-weight t (subst (λ n. n < 2 ^ 127) is (test h))
