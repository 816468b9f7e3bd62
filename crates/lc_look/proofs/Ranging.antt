-- What is seen at all numbers of a range is seen of all numbers.
use Rattle.std.proofs.Common.{◌≡◌, ℕ, zero, suc, Bool, true, false, List, [], ◌∷◌, ◌&&◌, refl, sym, ap, ap₂, ◌∙◌, subst, arith, ◌++◌, ◌+◌, add-one}
use Rattle.std.specs.Int.{w64}
use Rattle.std.specs.Prelude.{FitsSigned, ◌^◌, ◌<◌, ◌≤◌, ℤ, pos, negsuc, ◌+ℤ◌, ◌-ℤ◌, ◌*ℤ◌, ◌≤ℤ◌, ◌<ℤ◌, ◌==◌, IsTrue, Option, Some, None, option_and_then, option_map, nat_le, if◌then◌else◌}
use Rattle.std.proofs.lemmas.Bool.{and_parts, false≢true, leb-true}
use Rattle.std.proofs.lemmas.Bool.Decides.{Decides-eqb}
use Rattle.std.proofs.lemmas.Int.{ints, by_lt_z}
use Rattle.std.proofs.lemmas.Option.{same_Some}
use Rattle.lc_term.specs.Meaning.{State, Env, push, outside, stored, value, column, Holds, AllHold}
use Rattle.lc_term.specs.Places.{is_closed, column_passes, no_bounds}
use Rattle.lc_term.specs.Syntax.{Term, Number, Variable, Bound, Add, Subtract, Multiply, Read, Column, Base, Store, Affine}
use Rattle.lc_term.specs.Syntax.{Formula, Le, Eq, Not, And, Or, Implies, Forall, Exists, Formulas, none, more}
use Rattle.lc_look.specs.Computing.{number, both_in_64}
use Rattle.lc_look.specs.Ranges.{is_own, numeral, beyond, closed, no_range, first_of, joined, range_of, ranges_of, premise_range, from, count, count_between, between, numbers_in}
use Rattle.lc_look.specs.declared.range.Range.{Range}
use Rattle.lc_look.proofs.Fitting.{both_in_64-some}
use Rattle.lc_look.proofs.Numbers.{number_right}

-- ---- terms without bound variables

mutual
  closed-value : (s : State) (e b d : Env) (t : Term) → IsTrue (is_closed t) → value s e b t ≡ value s e d t
  closed-value s e b d (Number n) h = refl
  closed-value s e b d (Variable k) h = refl
  closed-value s e b d (Bound k) h = absurd (false≢true h)
  closed-value s e b d (Add t u) h = let p = and_parts (is_closed t) (is_closed u) h in ap₂ ◌+ℤ◌ (closed-value s e b d t p.0) (closed-value s e b d u p.1)
  closed-value s e b d (Subtract t u) h = let p = and_parts (is_closed t) (is_closed u) h in ap₂ ◌-ℤ◌ (closed-value s e b d t p.0) (closed-value s e b d u p.1)
  closed-value s e b d (Multiply n t) h = ap (◌*ℤ◌ n) (closed-value s e b d t h)
  closed-value s e b d (Read c t) h =
      let p = and_parts (column_passes no_bounds c) (is_closed t) h in λ i. closed-column s e b d c p.0 i (closed-value s e b d t p.1 i)

  closed-column : (s : State) (e b d : Env) (c : Column) → IsTrue (column_passes no_bounds c) → column s e b c ≡ column s e d c
  closed-column s e b d (Base k) h = refl
  closed-column s e b d (Store c t v) h =
      let q = and_parts (column_passes no_bounds c && is_closed t) (is_closed v) h in
      let r = and_parts (column_passes no_bounds c) (is_closed t) q.0 in
      λ i. stored (closed-column s e b d c r.0 i) (closed-value s e b d t r.1 i) (closed-value s e b d v q.1 i)
  closed-column s e b d (Affine m n) h = refl

if-some : (b : Bool) (o : Option ℤ) (x : ℤ) → (if b then o else None) ≡ Some x → (b ≡ true) × (o ≡ Some x)
if-some true o x h = (refl, h)
if-some false o x h = cc

closed-right : (s : State) (e b : Env) (t : Term) (x : ℤ) → closed s e t ≡ Some x → value s e b t ≡ x
closed-right s e b t x h =
    let i = if-some (is_closed t) (number s e outside t) x h in
    closed-value s e b outside t i.0 ∙ number_right s e outside t x i.1

-- ---- the variable

own-right : (s : State) (e b : Env) (t : Term) → is_own t ≡ true → value s e b t ≡ b 0
own-right s e b (Number n) h = cc
own-right s e b (Variable k) h = cc
own-right s e b (Bound k) h = ap b ((Decides-eqb k 0).0 h)
own-right s e b (Add t u) h = cc
own-right s e b (Subtract t u) h = cc
own-right s e b (Multiply n t) h = cc
own-right s e b (Read c i) h = cc

numeral-right : (s : State) (e b : Env) (t : Term) (n : ℤ) → numeral t ≡ Some n → value s e b t ≡ n
numeral-right s e b (Number m) n h = same_Some m n h
numeral-right s e b (Variable k) n h = cc
numeral-right s e b (Bound k) n h = cc
numeral-right s e b (Add t u) n h = cc
numeral-right s e b (Subtract t u) n h = cc
numeral-right s e b (Multiply m t) n h = cc
numeral-right s e b (Read c i) n h = cc

beyond-right : (s : State) (e b : Env) (t : Term) (n : ℤ) → beyond t ≡ Some n → value s e b t ≡ b 0 +ℤ n
beyond-right s e b (Number m) n h = cc
beyond-right s e b (Variable k) n h = cc
beyond-right s e b (Bound k) n h =
    let i = if-some (is_own (Bound k)) (Some (pos 0)) n h in
    let v : b k ≡ b 0 = own-right s e b (Bound k) i.0 in
    let z : pos 0 ≡ n = same_Some (pos 0) n i.1 in
    v ∙ plus_zero (b 0) ∙ ap (λ m. b 0 +ℤ m) z
  where
    plus_zero : (x : ℤ) → x ≡ x +ℤ pos 0
    plus_zero x = omega (arith, ints)
beyond-right s e b (Add t u) n h =
    let i = if-some (is_own t) (numeral u) n h in
    ap₂ ◌+ℤ◌ (own-right s e b t i.0) (numeral-right s e b u n i.1)
beyond-right s e b (Subtract t u) n h = cc
beyond-right s e b (Multiply m t) n h = cc
beyond-right s e b (Read c i) n h = cc

-- ---- ranges

IfIs : Option ℤ → (ℤ → Type 0) → Type 0
IfIs o P = (n : ℤ) → o ≡ Some n → P n

-- a number is between what is known
pub record IsBetween (r : Range) (x : ℤ) : Type 0 where
  pub low : (n : ℤ) → r.low ≡ Some n → n ≤ℤ x
  pub high : (n : ℤ) → r.high ≡ Some n → x ≤ℤ n

between-any : (x : ℤ) → IsBetween no_range x
between-any x = record { low = λ n h. cc; high = λ n h. cc }

first-either : (m n : Option ℤ) (P : ℤ → Type 0) → ((k : ℤ) → m ≡ Some k → P k) → ((k : ℤ) → n ≡ Some k → P k) → (k : ℤ) → first_of m n ≡ Some k → P k
first-either None n P f g k h = g k h
first-either (Some m) n P f g k h = f k h

between-joined : (r q : Range) (x : ℤ) → IsBetween r x → IsBetween q x → IsBetween (joined r q) x
between-joined r q x a b = record {
  low = first-either r.low q.low (λ n. n ≤ℤ x) a.low b.low;
  high = first-either r.high q.high (λ n. x ≤ℤ n) a.high b.high;
}

less : (t x n k : ℤ) → t ≤ℤ (x +ℤ n) → t -ℤ n ≡ k → k ≤ℤ x
less t x n k h e = omega (arith, ints, h, e)

more_than : (u x n k : ℤ) → (x +ℤ n) ≤ℤ u → u -ℤ n ≡ k → x ≤ℤ k
more_than u x n k h e = omega (arith, ints, h, e)

mutual
  range-right : (s : State) (e b : Env) (f : Formula) → Holds s e b f → IsBetween (range_of s e f) (b 0)
  range-right s e b (Le t u) h = record {
    low = λ k is.
        let i = both_in_64-some ◌-ℤ◌ (closed s e t) (beyond u) k is in
        less i.0 (b 0) i.1 k (subst (λ y. y ≤ℤ (b 0 +ℤ i.1)) (closed-right s e b t i.0 i.2) (subst (λ y. value s e b t ≤ℤ y) (beyond-right s e b u i.1 i.3) h)) i.4;
    high = λ k is.
        let i = both_in_64-some ◌-ℤ◌ (closed s e u) (beyond t) k is in
        more_than i.0 (b 0) i.1 k (subst (λ y. y ≤ℤ i.0) (beyond-right s e b t i.1 i.3) (subst (λ y. value s e b t ≤ℤ y) (closed-right s e b u i.0 i.2) h)) i.4;
  }
  range-right s e b (Eq t u) h = between-any (b 0)
  range-right s e b (Not f) h = between-any (b 0)
  range-right s e b (And fs) h = ranges-right s e b fs h
  range-right s e b (Or fs) h = between-any (b 0)
  range-right s e b (Implies f g) h = between-any (b 0)
  range-right s e b (Forall f) h = between-any (b 0)
  range-right s e b (Exists f) h = between-any (b 0)

  ranges-right : (s : State) (e b : Env) (fs : Formulas) → AllHold s e b fs → IsBetween (ranges_of s e fs) (b 0)
  ranges-right s e b none h = between-any (b 0)
  ranges-right s e b (more f fs) h = between-joined (range_of s e f) (ranges_of s e fs) (b 0) (range-right s e b f h.0) (ranges-right s e b fs h.1)

-- what holds where the variable is in the range of its premises holds
premise-right : (s : State) (e b : Env) (f : Formula) → (IsBetween (premise_range s e f) (b 0) → Holds s e b f) → Holds s e b f
premise-right s e b (Le t u) h = h (between-any (b 0))
premise-right s e b (Eq t u) h = h (between-any (b 0))
premise-right s e b (Not f) h = h (between-any (b 0))
premise-right s e b (And fs) h = h (between-any (b 0))
premise-right s e b (Or fs) h = h (between-any (b 0))
premise-right s e b (Implies f g) h = λ p. premise-right s e b g (λ w. h (between-joined (range_of s e f) (premise_range s e g) (b 0) (range-right s e b f p) w) p)
premise-right s e b (Forall f) h = h (between-any (b 0))
premise-right s e b (Exists f) h = h (between-any (b 0))

-- ---- the numbers of a range

abbrev pub EachOf : List ℤ → (ℤ → Type 0) → Type 0
EachOf [] P = Unit {0}
EachOf (x ∷ xs) P = P x × EachOf xs P

same_number : (x y : ℤ) → x ≤ℤ y → y ≤ℤ x → x ≡ y
same_number x y a b = omega (arith, ints, a, b)

each-from : (P : ℤ → Type 0) (low : ℤ) (n : ℕ) (x : ℤ) → EachOf (from low n) P → low ≤ℤ x → (x +ℤ pos 1) ≤ℤ (low +ℤ pos n) → P x
each-from P low zero x all a b = absurd (omega (arith, ints, a, b))
each-from P low (suc n) x all a b =
    by_lt_z low x
    (λ lt. each-from P (low +ℤ pos 1) n x all.1 (omega (arith, ints, lt)) (omega (arith, ints, b)))
    (λ le. subst P (same_number low x a le) all.0)

from-suc : (low : ℤ) (k : ℕ) → from low (suc k) ≡ from low k ++ (low +ℤ pos k) ∷ []
from-suc low zero = ap (λ x. x ∷ []) (plus_none low)
  where
    plus_none : (x : ℤ) → x ≡ x +ℤ pos 0
    plus_none x = omega (arith, ints)
from-suc low (suc k) = ap (λ xs. low ∷ xs) (from-suc (low +ℤ pos 1) k ∙ ap (λ x. from (low +ℤ pos 1) k ++ x ∷ []) (further low k))
  where
    further : (x : ℤ) (n : ℕ) → (x +ℤ pos 1) +ℤ pos n ≡ x +ℤ pos (suc n)
    further x n = omega (arith, ints)

-- one number more
pub from_more : (low : ℤ) (k : ℕ) (xs : List ℤ) (x : ℤ) → xs ≡ from low k → x ≡ low +ℤ pos k → xs ++ x ∷ [] ≡ from low (k + 1)
from_more low k xs x is there =
    ap₂ (λ ys y. ys ++ y ∷ []) is there ∙ sym (from-suc low k) ∙ ap (from low) (sym (add-one k))

-- ---- how many there are

-- what is between two numbers of 64 bits fits
fits_between : (low z high : ℤ) → FitsSigned w64 low → FitsSigned w64 high → low ≤ℤ z → z ≤ℤ high → FitsSigned w64 z
fits_between low (pos n) (pos m) l h a b = record { sfits = less_pos n m h.sfits b }
  where
    less_pos : (n m : ℕ) → m < 2 ^ 63 → pos n ≤ℤ pos m → n < 2 ^ 63
    less_pos n m fits le = omega (arith, ints, fits, le)
fits_between low (pos n) (negsuc m) l h a b = absurd (no n m b)
  where
    no : (n m : ℕ) → pos n ≤ℤ negsuc m → ⊥
    no n m le = omega (arith, ints, le)
fits_between (negsuc k) (negsuc n) high l h a b = record { sfits = less_neg n k l.sfits a }
  where
    less_neg : (n k : ℕ) → k < 2 ^ 63 → negsuc k ≤ℤ negsuc n → n < 2 ^ 63
    less_neg n k fits le = omega (arith, ints, fits, le)
fits_between (pos k) (negsuc n) high l h a b = absurd (no k n a)
  where
    no : (k n : ℕ) → pos k ≤ℤ negsuc n → ⊥
    no k n le = omega (arith, ints, le)

-- what a count says: there are no more than 1,024, and so many from the one number to the other
counted : (low high : ℤ) (found : Option ℕ) (n : ℕ) → found ≡ Some n → found ≡ count_between low high → (n ≤ 1024) × (count (high -ℤ low +ℤ pos 1) ≡ n)
counted low high found n some is = by (nat_le (count (high -ℤ low +ℤ pos 1)) 1024) refl (sym is ∙ some)
  where
    by : (t : Bool) → nat_le (count (high -ℤ low +ℤ pos 1)) 1024 ≡ t → (if t then Some (count (high -ℤ low +ℤ pos 1)) else None) ≡ Some n → (n ≤ 1024) × (count (high -ℤ low +ℤ pos 1) ≡ n)
    by true e h =
        let same : count (high -ℤ low +ℤ pos 1) ≡ n = cc in
        (subst (λ (k : ℕ). k ≤ 1024) same (leb-true (count (high -ℤ low +ℤ pos 1)) 1024 e), same)
    by false e h = cc

pub few : (low high : ℤ) (found : Option ℕ) (n i : ℕ) → found ≡ Some n → found ≡ count_between low high → i < n → FitsSigned w64 (pos i)
few low high found n i some is lt = (let c = counted low high found n some is in record { sfits = omega (arith, c.0, lt) })

-- each of them fits
pub each_fits : (low high : ℤ) (found : Option ℕ) (n i : ℕ) → found ≡ Some n → found ≡ count_between low high → i < n → FitsSigned w64 low → FitsSigned w64 high → FitsSigned w64 (low +ℤ pos i)
each_fits low high found n i some is lt l h =
    let c = counted low high found n some is in
    fits_between low (low +ℤ pos i) high l h (from_low low i) (to_high low high (high -ℤ low +ℤ pos 1) n i refl c.1 lt)
  where
    from_low : (x : ℤ) (k : ℕ) → x ≤ℤ (x +ℤ pos k)
    from_low x k = omega (arith, ints)

    to_high : (x y z : ℤ) (m k : ℕ) → y -ℤ x +ℤ pos 1 ≡ z → count z ≡ m → k < m → (x +ℤ pos k) ≤ℤ y
    to_high x y (pos w) m k e same less = omega (arith, ints, e, same, less)
    to_high x y (negsuc w) m k e same less = absurd (omega (arith, same, less))

count-least : (z : ℤ) → z ≤ℤ pos (count z)
count-least (pos n) = omega (arith, ints)
count-least (negsuc n) = omega (arith, ints)

each-between : (P : ℤ → Type 0) (low high x : ℤ) (xs : List ℤ) → between low high ≡ Some xs → EachOf xs P → low ≤ℤ x → x ≤ℤ high → P x
each-between P low high x xs is all a b = by (nat_le (count (high -ℤ low +ℤ pos 1)) 1024) refl
  where
    by : (t : Bool) → nat_le (count (high -ℤ low +ℤ pos 1)) 1024 ≡ t → P x
    by true e =
        let same : from low (count (high -ℤ low +ℤ pos 1)) ≡ xs =
        same_Some (from low (count (high -ℤ low +ℤ pos 1))) xs (sym (ap (λ t. option_map (from low) (if t then Some (count (high -ℤ low +ℤ pos 1)) else None)) e) ∙ is) in
        let c = count-least (high -ℤ low +ℤ pos 1) in
        each-from P low (count (high -ℤ low +ℤ pos 1)) x (subst (λ ys. EachOf ys P) (sym same) all) a (omega (arith, ints, b, c))
    by false e =
        let not : None ≡ Some xs = sym (ap (λ t. option_map (from low) (if t then Some (count (high -ℤ low +ℤ pos 1)) else None)) e) ∙ is in
        cc

pub each-in : (P : ℤ → Type 0) (r : Range) (x : ℤ) (xs : List ℤ) → numbers_in r ≡ Some xs → EachOf xs P → IsBetween r x → P x
each-in P r x xs is all w = by r.low r.high refl refl is
  where
    by : (l h : Option ℤ) → r.low ≡ l → r.high ≡ h → option_and_then (λ low. option_and_then (λ high. between low high) h) l ≡ Some xs → P x
    by None h el eh bad = cc
    by (Some low) None el eh bad = cc
    by (Some low) (Some high) el eh good = each-between P low high x xs good all (w.low low el) (w.high high eh)

-- what holds at each number of the range of the premises holds of all numbers
pub forall-right : (s : State) (e b : Env) (f : Formula) (xs : List ℤ) → numbers_in (premise_range s e f) ≡ Some xs → EachOf xs (λ x. Holds s e (push x b) f) → (x : ℤ) → Holds s e (push x b) f
forall-right s e b f xs is all x = premise-right s e (push x b) f (λ w. each-in (λ y. Holds s e (push y b) f) (premise_range s e f) x xs is all w)

-- what holds at no number of the range of a formula holds of no number
pub exists-right : (s : State) (e b : Env) (f : Formula) (xs : List ℤ) → numbers_in (range_of s e f) ≡ Some xs → EachOf xs (λ x. Holds s e (push x b) f → ⊥) → (x : ℤ) → Holds s e (push x b) f → ⊥
exists-right s e b f xs is all x h = each-in (λ y. Holds s e (push y b) f → ⊥) (range_of s e f) x xs is all (range-right s e (push x b) f h) h
