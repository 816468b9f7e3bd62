-- What a shift, a substitution and an instantiation put in below n quantifiers.
use Rattle.std.proofs.Common.{◌≡◌, ℕ, zero, suc, ◌+◌, ◌-◌, ◌<◌, ◌≤◌, ◌^◌, min, Bool, true, false, ◌&&◌, ◌||◌, IsTrue, refl, inl, inr, ap, ap₂, sym, ◌∙◌, arith, subst}
use Rattle.std.specs.Prelude.{◌==◌, not, nat_lt, if◌then◌else◌, ◌≢◌}
use Rattle.std.proofs.lemmas.Bool.{and_parts, and_from, cases_lt}
use Rattle.std.proofs.lemmas.Bool.Decides.{nat_tests}
use Rattle.lc_term.specs.Syntax.{Term, Number, Variable, Bound, Add, Subtract, Multiply, Read, Column, Base, Store, Affine}
use Rattle.lc_term.specs.Counter.{HasCounted}
use Rattle.lc_term.specs.Places.{term_passes, column_passes, shift_fits}
use Rattle.lc_term.specs.Replacement.{Replacement, replace_term, replace_column, raising, under_many}
use Rattle.lc_term.specs.Substitution.{putting, opening, shifting, shifted_term}

-- what keeps the columns or the variables keeps them below quantifiers
pub under_many-columns : (n : ℕ) (r : Replacement) (c : ℕ) → r.columns c ≡ Base c → (under_many n r).columns c ≡ Base c
under_many-columns zero r c h = h
under_many-columns (suc n) r c h = ap (replace_column raising) (under_many-columns n r c h)

pub under_many-variables : (n : ℕ) (r : Replacement) (k : ℕ) → r.variables k ≡ Variable k → (under_many n r).variables k ≡ Variable k
under_many-variables zero r k h = h
under_many-variables (suc n) r k h = ap (replace_term raising) (under_many-variables n r k h)

pub under_many-bounds : (n : ℕ) (r : Replacement) → ((k : ℕ) → r.bounds k ≡ Bound k) → (k : ℕ) → (under_many n r).bounds k ≡ Bound k
under_many-bounds zero r h k = h k
under_many-bounds (suc n) r h zero = refl
under_many-bounds (suc n) r h (suc k) = ap (replace_term raising) (under_many-bounds n r h k)

-- ---- shifting

if_true : (b : Bool) (t u : Term) → b ≡ true → (if b then t else u) ≡ t
if_true b t u h = ap (λ c. if c then t else u) h

if_false : (b : Bool) (t u : Term) → b ≡ false → (if b then t else u) ≡ u
if_false b t u h = ap (λ c. if c then t else u) h

pub shifting-inside : (a c k : ℕ) → k < c → (shifting a c).bounds k ≡ Bound k
shifting-inside a c k h = if_true (nat_lt k c) (Bound k) (Bound (k + a)) (grind (arith, nat_tests))

pub shifting-outside : (a c k : ℕ) → c ≤ k → (shifting a c).bounds k ≡ Bound (k + a)
shifting-outside a c k h = if_false (nat_lt k c) (Bound k) (Bound (k + a)) (grind (arith, nat_tests))

pub under_many-shifting-inside : (a c n k : ℕ) → k < c + n → (under_many n (shifting a c)).bounds k ≡ Bound k
under_many-shifting-inside a c zero k h = shifting-inside a c k (omega arith)
under_many-shifting-inside a c (suc n) zero h = refl
under_many-shifting-inside a c (suc n) (suc k) h = ap (replace_term raising) (under_many-shifting-inside a c n k (omega arith))

pub under_many-shifting-outside : (a c n k : ℕ) → c + n ≤ k → (under_many n (shifting a c)).bounds k ≡ Bound (k + a)
under_many-shifting-outside a c zero k h = shifting-outside a c k (omega arith)
under_many-shifting-outside a c (suc n) zero h = absurd (omega arith)
under_many-shifting-outside a c (suc n) (suc k) h =
    ap (replace_term raising) (under_many-shifting-outside a c n k (omega arith)) ∙ ap Bound (omega arith)

-- ---- a term raised by one quantifier after another is shifted

mutual
  pub shifted_none : (t : Term) → shifted_term 0 0 t ≡ t
  shifted_none (Number n) = refl
  shifted_none (Variable k) = refl
  shifted_none (Bound k) = shifting-outside 0 0 k (omega arith) ∙ ap Bound (omega arith)
  shifted_none (Add t u) = ap₂ Add (shifted_none t) (shifted_none u)
  shifted_none (Subtract t u) = ap₂ Subtract (shifted_none t) (shifted_none u)
  shifted_none (Multiply n t) = ap (Multiply n) (shifted_none t)
  shifted_none (Read c t) = ap₂ Read (shifted_column_none c) (shifted_none t)

  pub shifted_column_none : (c : Column) → replace_column (shifting 0 0) c ≡ c
  shifted_column_none (Base c) = refl
  shifted_column_none (Store c t v) = λ i. Store (shifted_column_none c i) (shifted_none t i) (shifted_none v i)
  shifted_column_none (Affine a b) = refl

mutual
  raised_shifted : (n : ℕ) (t : Term) → replace_term raising (shifted_term n 0 t) ≡ shifted_term (suc n) 0 t
  raised_shifted n (Number m) = refl
  raised_shifted n (Variable k) = refl
  raised_shifted n (Bound k) =
      ap (replace_term raising) (shifting-outside n 0 k (omega arith)) ∙ ap Bound (omega arith) ∙ sym (shifting-outside (suc n) 0 k (omega arith))
  raised_shifted n (Add t u) = ap₂ Add (raised_shifted n t) (raised_shifted n u)
  raised_shifted n (Subtract t u) = ap₂ Subtract (raised_shifted n t) (raised_shifted n u)
  raised_shifted n (Multiply m t) = ap (Multiply m) (raised_shifted n t)
  raised_shifted n (Read c t) = ap₂ Read (raised_shifted_column n c) (raised_shifted n t)

  raised_shifted_column : (n : ℕ) (c : Column) → replace_column raising (replace_column (shifting n 0) c) ≡ replace_column (shifting (suc n) 0) c
  raised_shifted_column n (Base c) = refl
  raised_shifted_column n (Store c t v) = λ i. Store (raised_shifted_column n c i) (raised_shifted n t i) (raised_shifted n v i)
  raised_shifted_column n (Affine a b) = refl

-- what is put in for a variable or a column is shifted by the quantifiers around it
pub under_many-variable : (n : ℕ) (r : Replacement) (k : ℕ) → (under_many n r).variables k ≡ shifted_term n 0 (r.variables k)
under_many-variable zero r k = sym (shifted_none (r.variables k))
under_many-variable (suc n) r k = ap (replace_term raising) (under_many-variable n r k) ∙ raised_shifted n (r.variables k)

pub under_many-column : (n : ℕ) (r : Replacement) (c : ℕ) → (under_many n r).columns c ≡ replace_column (shifting n 0) (r.columns c)
under_many-column zero r c = sym (shifted_column_none (r.columns c))
under_many-column (suc n) r c = ap (replace_column raising) (under_many-column n r c) ∙ raised_shifted_column n (r.columns c)

-- ---- putting a term for a free variable

putting-same : (v k : ℕ) (u : Term) → k ≡ v → (putting v u).variables k ≡ u
putting-same v k u h = if_true (k == v) u (Variable k) (grind (arith, nat_tests))

putting-other : (v k : ℕ) (u : Term) → k ≢ v → (putting v u).variables k ≡ Variable k
putting-other v k u h = if_false (k == v) u (Variable k) (grind (arith, nat_tests))

pub under_many-putting-same : (v n k : ℕ) (u : Term) → k ≡ v → (under_many n (putting v u)).variables k ≡ shifted_term n 0 u
under_many-putting-same v zero k u h = putting-same v k u h ∙ sym (shifted_none u)
under_many-putting-same v (suc n) k u h = ap (replace_term raising) (under_many-putting-same v n k u h) ∙ raised_shifted n u

pub under_many-putting-other : (v n k : ℕ) (u : Term) → k ≢ v → (under_many n (putting v u)).variables k ≡ Variable k
under_many-putting-other v n k u h = under_many-variables n (putting v u) k (putting-other v k u h)

-- ---- opening a quantifier

pub under_many-opening-inside : (u : Term) (n k : ℕ) → k < n → (under_many n (opening u)).bounds k ≡ Bound k
under_many-opening-inside u zero k h = absurd (omega arith)
under_many-opening-inside u (suc n) zero h = refl
under_many-opening-inside u (suc n) (suc k) h = ap (replace_term raising) (under_many-opening-inside u n k (omega arith))

pub under_many-opening-here : (u : Term) (n : ℕ) → (under_many n (opening u)).bounds n ≡ shifted_term n 0 u
under_many-opening-here u zero = sym (shifted_none u)
under_many-opening-here u (suc n) = ap (replace_term raising) (under_many-opening-here u n) ∙ raised_shifted n u

pub under_many-opening-outside : (u : Term) (n k : ℕ) → n < k → (under_many n (opening u)).bounds k ≡ Bound (k - 1)
under_many-opening-outside u n zero h = absurd (omega arith)
under_many-opening-outside u zero (suc k) h = ap Bound (omega arith)
under_many-opening-outside u (suc n) (suc k) h = ap (replace_term raising) (under_many-opening-outside u n k (omega arith)) ∙ ap Bound (omega arith)

-- ---- a counter that has counted n

counted_alike : (a n k : ℕ) → HasCounted a n → IsTrue (nat_lt k 0 || nat_lt (k + n) (2 ^ 32)) → n ≡ a
counted_alike a n k e h = let fits : k + n < 2 ^ 32 = grind (arith, nat_tests) in omega arith

-- what can be shifted by n is shifted alike by what has counted n
mutual
  pub shifted_counted : (a n : ℕ) → HasCounted a n → (t : Term) → IsTrue (term_passes (shift_fits n 0 0) t) →
      IsTrue (term_passes (shift_fits a 0 0) t) × (shifted_term a 0 t ≡ shifted_term n 0 t)
  shifted_counted a n e (Number m) h = (refl, refl)
  shifted_counted a n e (Variable k) h = (refl, refl)
  shifted_counted a n e (Bound k) h =
      let P : ℕ → Type 0 = λ m. IsTrue (term_passes (shift_fits m 0 0) (Bound k)) × (shifted_term m 0 (Bound k) ≡ shifted_term n 0 (Bound k)) in
      subst P (counted_alike a n k e h) (h, refl)
  shifted_counted a n e (Add t u) h =
      let p = and_parts (term_passes (shift_fits n 0 0) t) (term_passes (shift_fits n 0 0) u) h in
      let x = shifted_counted a n e t p.0 in
      let y = shifted_counted a n e u p.1 in
      (and_from _ _ x.0 y.0, ap₂ Add x.1 y.1)
  shifted_counted a n e (Subtract t u) h =
      let p = and_parts (term_passes (shift_fits n 0 0) t) (term_passes (shift_fits n 0 0) u) h in
      let x = shifted_counted a n e t p.0 in
      let y = shifted_counted a n e u p.1 in
      (and_from _ _ x.0 y.0, ap₂ Subtract x.1 y.1)
  shifted_counted a n e (Multiply m t) h =
      let x = shifted_counted a n e t h in
      (x.0, ap (Multiply m) x.1)
  shifted_counted a n e (Read c t) h =
      let p = and_parts (column_passes (shift_fits n 0 0) c) (term_passes (shift_fits n 0 0) t) h in
      let x = column_counted a n e c p.0 in
      let y = shifted_counted a n e t p.1 in
      (and_from _ _ x.0 y.0, ap₂ Read x.1 y.1)

  column_counted : (a n : ℕ) → HasCounted a n → (c : Column) → IsTrue (column_passes (shift_fits n 0 0) c) →
      IsTrue (column_passes (shift_fits a 0 0) c) × (replace_column (shifting a 0) c ≡ replace_column (shifting n 0) c)
  column_counted a n e (Base c) h = (refl, refl)
  column_counted a n e (Store c t v) h =
      let p = and_parts (column_passes (shift_fits n 0 0) c && term_passes (shift_fits n 0 0) t) (term_passes (shift_fits n 0 0) v) h in
      let q = and_parts (column_passes (shift_fits n 0 0) c) (term_passes (shift_fits n 0 0) t) p.0 in
      let x = column_counted a n e c q.0 in
      let y = shifted_counted a n e t q.1 in
      let z = shifted_counted a n e v p.1 in
      (and_from _ _ (and_from _ _ x.0 y.0) z.0, λ i. Store (x.1 i) (y.1 i) (z.1 i))
  column_counted a n e (Affine m k) h = (refl, refl)

-- the code's number of a shifted bound variable, if it fits
shifted_number : (k a cutoff number : ℕ) → number ≡ (if nat_lt k cutoff then k else min (k + a) (2 ^ 32 - 1)) → cutoff ≤ k → k + a < 2 ^ 32 → number ≡ k + a
shifted_number k a cutoff number e h l = grind (arith, nat_tests)

kept_number : (k a cutoff number : ℕ) → number ≡ (if nat_lt k cutoff then k else min (k + a) (2 ^ 32 - 1)) → k < cutoff → number ≡ k
kept_number k a cutoff number e h = grind (arith, nat_tests)

fits_outside : (k a c : ℕ) → IsTrue (nat_lt k c || nat_lt (k + a) (2 ^ 32)) → c ≤ k → k + a < 2 ^ 32
fits_outside k a c h l = grind (arith, nat_tests)

pub shifting_counted : (k a c depth n cutoff number : ℕ) → k < 2 ^ 32 → c < 2 ^ 32 → HasCounted depth n → cutoff ≡ min (depth + c) (2 ^ 64 - 1) →
    number ≡ (if nat_lt k cutoff then k else min (k + a) (2 ^ 32 - 1)) → IsTrue (nat_lt k (c + n) || nat_lt (k + a) (2 ^ 32)) →
    Bound number ≡ (under_many n (shifting a c)).bounds k
shifting_counted k a c depth n cutoff number small low counted at is fits = elim (cases_lt k (c + n)) [
  | inl inside ↦ ap Bound (kept_number k a cutoff number is (omega arith)) ∙ sym (under_many-shifting-inside a c n k inside)
  | inr outside ↦
      let l = fits_outside k a (c + n) fits outside in
      ap Bound (shifted_number k a cutoff number is (omega arith) l) ∙ sym (under_many-shifting-outside a c n k outside)
]

put_passes : (k v : ℕ) (b : Bool) → IsTrue (not (k == v) || b) → k ≡ v → IsTrue b
put_passes k v b h e = grind (arith, nat_tests)

pub putting_counted : (v k n : ℕ) (u t : Term) → (IsTrue (term_passes (shift_fits n 0 0) u) → t ≡ shifted_term n 0 u) →
    k ≡ v → IsTrue (not (k == v) || term_passes (shift_fits n 0 0) u) → t ≡ (under_many n (putting v u)).variables k
putting_counted v k n u t h e fits = h (put_passes k v (term_passes (shift_fits n 0 0) u) fits e) ∙ sym (under_many-putting-same v n k u e)

-- the code's counter stands for n when it is compared with the number of a bound variable
pub opening_counted_here : (k depth n : ℕ) (u t : Term) → k < 2 ^ 32 → HasCounted depth n → k ≡ depth →
    (IsTrue (term_passes (shift_fits n 0 0) u) → t ≡ shifted_term n 0 u) →
    IsTrue (not (k == n) || term_passes (shift_fits n 0 0) u) → t ≡ (under_many n (opening u)).bounds k
opening_counted_here k depth n u t small counted e h fits =
    let same : k ≡ n = omega arith in
    h (put_passes k n (term_passes (shift_fits n 0 0) u) fits same) ∙ sym (ap (under_many n (opening u)).bounds same ∙ under_many-opening-here u n)

pub opening_counted_inside : (k depth n : ℕ) (u : Term) → k < 2 ^ 32 → HasCounted depth n → k < depth → Bound k ≡ (under_many n (opening u)).bounds k
opening_counted_inside k depth n u small counted h = sym (under_many-opening-inside u n k (omega arith))

pub opening_counted_outside : (k depth n : ℕ) (u : Term) → k < 2 ^ 32 → HasCounted depth n → depth < k → Bound (k - 1) ≡ (under_many n (opening u)).bounds k
opening_counted_outside k depth n u small counted h = sym (under_many-opening-outside u n k (omega arith))
