-- A multiple of a term's form, added part by part to a number that is kept.
use Rattle.std.proofs.Common.{◌≡◌, arith}
use Rattle.std.specs.Prelude.{ℤ, pos, ◌+ℤ◌, ◌-ℤ◌, ◌*ℤ◌}
use Rattle.std.proofs.lemmas.Int.{ints}
use Rattle.lc_term.specs.Syntax.{Term, Add, Subtract, Multiply}
use Rattle.lc_linear.specs.Form.{Place, form_of}
use Rattle.lc_linear.proofs.Products.{mul-add, mul-sub, mul-neg, mul_assoc}

module _ (p : Place) (t : Term) (k k' : ℤ) (is_k : k' ≡ k) (before after : ℤ) where
  pub added_sum : (u v : Term) (between : ℤ) → t ≡ Add u v → between ≡ before +ℤ k' *ℤ form_of u p → after ≡ between +ℤ k' *ℤ form_of v p →
      after ≡ before +ℤ k *ℤ form_of t p
  added_sum u v between is first second = rw (is, ← is_k, mul-add k' (form_of u p) (form_of v p)) (omega (arith, ints))

  pub added_difference : (u v : Term) (between back : ℤ) → t ≡ Subtract u v → between ≡ before +ℤ k' *ℤ form_of u p → back ≡ pos 0 -ℤ k' →
      after ≡ between +ℤ back *ℤ form_of v p → after ≡ before +ℤ k *ℤ form_of t p
  added_difference u v between back is first is_back second =
      let e : back *ℤ form_of v p ≡ pos 0 -ℤ k' *ℤ form_of v p = rw (is_back, mul-neg k' (form_of v p)) in
      rw (is, ← is_k, mul-sub k' (form_of u p) (form_of v p)) (omega (arith, ints))

  pub added_product : (n m : ℤ) (u : Term) → t ≡ Multiply n u → m ≡ k' *ℤ n → after ≡ before +ℤ m *ℤ form_of u p → after ≡ before +ℤ k *ℤ form_of t p
  added_product n m u is is_m once = rw (is, ← is_k, ← mul_assoc k' n (form_of u p), ← is_m) once
