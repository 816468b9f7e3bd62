-- Lists that close cannot hold, and what follows from an inequality holds with it.
use Rattle.std.proofs.Common.{◌≡◌, true, Option, Some, None, List, [], ◌∷◌, sym, ap, subst, ◌∙◌, arith}
use Rattle.std.specs.Prelude.{ℤ, pos, ◌+ℤ◌, ◌-ℤ◌, ◌*ℤ◌, ◌≤ℤ◌, ◌<ℤ◌}
use Rattle.std.specs.List.{AllByRecursion}
use Rattle.std.proofs.lemmas.Bool.{false≢true, and_parts}
use Rattle.std.proofs.lemmas.Int.{ints}
use Rattle.lc_term.specs.Meaning.{State, Env, value, Holds}
use Rattle.lc_term.specs.Syntax.{Term, Number, Add, Subtract, Multiply, Formula, Le, Eq, Not, And, Or, Implies, Forall, Exists}
use Rattle.lc_linear.proofs.Meaning.{value_constant}
use Rattle.lc_linear.proofs.Products.{mul-sub, mul_comm, zero-mul, mul-low, multiple_below}
use Rattle.lc_linear.specs.Closing.{Entry, gap, is_allowed, are_allowed, combined_from, combined, Closes}
use Rattle.lc_linear.specs.Divided.{IsRoundedUp, Divides, IsDivided}
use Rattle.lc_linear.specs.Form.{form_of}

-- the constant can only be rounded up for a number above 0
IsRoundedUp-positive : (d k n : ℤ) → IsRoundedUp d k n → pos 1 ≤ℤ k
IsRoundedUp-positive d k n h =
    let reaches = h.reaches in
    let least = h.least in
    omega (arith, ints)

IsDivided-positive : {Atom : Type 0} (f : Option Atom → ℤ) (k : ℤ) (g : Option Atom → ℤ) → IsDivided f k g → pos 1 ≤ℤ k
IsDivided-positive f k g d = IsRoundedUp-positive (f None) k (g None) d.constant

-- a form that has a quotient by k can be divided by k
pub IsDivided-Divides : {Atom : Type 0} (f : Option Atom → ℤ) (k : ℤ) (g : Option Atom → ℤ) → IsDivided f k g → Divides k f
IsDivided-Divides f k g d = record { positive = IsDivided-positive f k g d; multiples = λ a. (g (Some a), d.coefficients a) }

-- equal products by the same number above 0 have equal factors
same_factor : (k a b : ℤ) → pos 1 ≤ℤ k → (k *ℤ a) <ℤ (k *ℤ b +ℤ k) → (k *ℤ b) <ℤ (k *ℤ a +ℤ k) → a ≡ b
same_factor k a b positive low high =
    let d = mul-sub k a b in
    let d' = mul-sub k b a in
    let first = multiple_below k (a -ℤ b) positive (omega (arith, ints)) in
    let second = multiple_below k (b -ℤ a) positive (omega (arith, ints)) in
    omega (arith, ints)

-- and then it is the only one
pub IsDivided-unique : {Atom : Type 0} (f : Option Atom → ℤ) (k : ℤ) (g h : Option Atom → ℤ) → IsDivided f k g → IsDivided f k h → (p : Option Atom) → g p ≡ h p
IsDivided-unique f k g h d d' None =
    let low = d.constant.reaches in
    let high = d.constant.least in
    let low' = d'.constant.reaches in
    let high' = d'.constant.least in
    same_factor k (g None) (h None) (IsDivided-positive f k g d) (omega (arith, ints)) (omega (arith, ints))
IsDivided-unique f k g h d d' (Some a) =
    let positive = IsDivided-positive f k g d in
    let is = d.coefficients a in
    let is' = d'.coefficients a in
    same_factor k (g (Some a)) (h (Some a)) positive (omega (arith, ints)) (omega (arith, ints))

-- forms with the same numbers
pub IsDivided-same : {Atom : Type 0} (f f' : Option Atom → ℤ) (k : ℤ) (g g' : Option Atom → ℤ) → ((p : Option Atom) → f p ≡ f' p) → ((p : Option Atom) → g p ≡ g' p) → IsDivided f k g → IsDivided f' k g'
IsDivided-same f f' k g g' is is' d = record {
  coefficients = λ a. sym (is (Some a)) ∙ d.coefficients a ∙ ap (λ n. k *ℤ n) (is' (Some a));
  constant = subst (λ n. IsRoundedUp n k (g' None)) (is None) (subst (IsRoundedUp (f None) k) (is' None) d.constant);
}

module _ (s : State) (e b : Env) where
  -- an allowed multiple of the gap of a formula that holds is at most 0
  gap_low : (f : Formula) (k : ℤ) → is_allowed f k ≡ true → Holds s e b f → (k *ℤ value s e b (gap f)) ≤ℤ pos 0
  gap_low (Le t u) k allowed h = mul-low k (value s e b t -ℤ value s e b u) (grind (arith, ints)) (omega (arith, ints))
  gap_low (Eq t u) k allowed h =
      let none : value s e b t -ℤ value s e b u ≡ pos 0 = omega (arith, ints) in
      let zero = mul_comm k (value s e b t -ℤ value s e b u) ∙ zero-mul (value s e b t -ℤ value s e b u) k none in
      omega (arith, ints)
  gap_low (Not f) k allowed h = absurd (false≢true allowed)
  gap_low (And fs) k allowed h = absurd (false≢true allowed)
  gap_low (Or fs) k allowed h = absurd (false≢true allowed)
  gap_low (Implies f g) k allowed h = absurd (false≢true allowed)
  gap_low (Forall f) k allowed h = absurd (false≢true allowed)
  gap_low (Exists f) k allowed h = absurd (false≢true allowed)

  combined_low : (es : List Entry) (t : Term) → are_allowed es ≡ true → AllByRecursion (λ x. Holds s e b x.0) es → value s e b (combined_from t es) ≤ℤ value s e b t
  combined_low [] t allowed h = omega (arith, ints)
  combined_low (x ∷ es) t allowed h =
      let both = and_parts (is_allowed x.0 x.1) (are_allowed es) allowed in
      let rest = combined_low es (Add t (Multiply x.1 (gap x.0))) both.1 h.1 in
      let low = gap_low x.0 x.1 both.0 h.0 in
      omega (arith, ints)

  -- a list that closes cannot hold, each formula of it
  pub closes_refutes : (es : List Entry) → Closes es → AllByRecursion (λ x. Holds s e b x.0) es → ⊥
  closes_refutes es c h =
      let low = combined_low es (Number (pos 0)) c.allowed h in
      let is = value_constant s e b (combined es) c.vanishes in
      let high = c.positive in
      omega (arith, ints)

  -- if an inequality holds, so does each one whose gap has the divided form
  pub divided_holds : (t u t' u' : Term) (k : ℤ) → IsDivided (form_of (Subtract t u)) k (form_of (Subtract t' u')) → Holds s e b (Le t u) → Holds s e b (Le t' u')
  divided_holds t u t' u' k d h =
      let v = value s e b (Subtract t u) in
      let v' = value s e b (Subtract t' u') in
      let n = form_of (Subtract t' u') None in
      let low : v ≤ℤ pos 0 = omega (arith, ints) in
      let same = value_constant s e b (Subtract (Subtract t u) (Multiply k (Subtract t' u'))) (λ a. let is = d.coefficients a in omega (arith, ints)) in
      let least = d.constant.least in
      let more = mul-sub k v' n in
      let below : (k *ℤ v') <ℤ k = omega (arith, ints) in
      let low' : v' ≤ℤ pos 0 = multiple_below k v' (IsDivided-positive _ k _ d) below in
      omega (arith, ints)
