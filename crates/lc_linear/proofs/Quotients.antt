-- Coefficients divided one after another, in place.
use Rattle.std.proofs.Common.{◌≡◌, ℕ, zero, suc, ◌+◌, ◌<◌, ◌≤◌, ◌⊎◌, inl, inr, Bool, true, false, List, [], ◌∷◌, ◌++◌, length, Some, refl, sym, ap, ap₂, subst, ◌∙◌, append_assoc, append-nil, arith}
use Rattle.std.specs.Prelude.{ℤ, ◌*ℤ◌, FitsSigned, if◌then◌else◌, slice_get}
use Rattle.std.specs.Int.{w128}
use Rattle.std.specs.List.{IsDistinct}
use Rattle.std.specs.Map.{keys_of, values_of}
use Rattle.std.proofs.lemmas.Int.{ints}
use Rattle.std.proofs.lemmas.List.{length-append}
use Rattle.indexmap.specs.Layout.{set_value_at}
use Rattle.lc_table.specs.declared.node.TermId.{TermId}
use Rattle.lc_linear.proofs.Distinct.{absent_before, coefficient_in-middle}
use Rattle.lc_linear.specs.Numbered.{is_same, coefficient_in, AllFit}
use Rattle.lc_linear.specs.Quotient.{DividesAt, IsNoMultipleAt}

-- after a write an atom has the number written, or the one that it had
either : (here : Bool) (n m : ℤ) → ((if here then n else m) ≡ n) ⊎ ((if here then n else m) ≡ m)
either true n m = inl refl
either false n m = inr refl

behind : (here : Bool) (n m k old : ℤ) → (m ≡ n) ⊎ (m ≡ old) → ((if here then k else m) ≡ n) ⊎ ((if here then k else m) ≡ (if here then k else old))
behind true n m k old h = inr refl
behind false n m k old h = h

either_old : (here : Bool) (n k m : ℤ) → ((if here then n else m) ≡ n) ⊎ ((if here then n else m) ≡ (if here then k else m))
either_old true n k m = inl refl
either_old false n k m = inr refl

coefficient_in-set_value_at : (es : List (TermId × ℤ)) (i : ℕ) (n : ℤ) (a : TermId) →
    (coefficient_in (set_value_at es i n) a ≡ n) ⊎ (coefficient_in (set_value_at es i n) a ≡ coefficient_in es a)
coefficient_in-set_value_at [] i n a = inr refl
coefficient_in-set_value_at (e ∷ es) zero n a = either_old (is_same a e.0) n e.1 (coefficient_in es a)
coefficient_in-set_value_at (e ∷ es) (suc i) n a = behind (is_same a e.0) n _ e.1 (coefficient_in es a) (coefficient_in-set_value_at es i n a)

pub AllFit-set_value_at : (es : List (TermId × ℤ)) (i : ℕ) (n : ℤ) → FitsSigned w128 n → AllFit es → AllFit (set_value_at es i n)
AllFit-set_value_at es i n f fits a = elim (coefficient_in-set_value_at es i n a) [
  | inl is ↦ subst (FitsSigned w128) (sym is) f
  | inr is ↦ subst (FitsSigned w128) (sym is) (fits a)
]

pub length-set_value_at : (es : List (TermId × ℤ)) (i : ℕ) (n : ℤ) → length (set_value_at es i n) ≡ length es
length-set_value_at [] i n = refl
length-set_value_at (e ∷ es) zero n = refl
length-set_value_at (e ∷ es) (suc i) n = ap suc (length-set_value_at es i n)

-- the same atoms, with coefficients k times as small
abbrev pub AreQuotients : ℤ → List (TermId × ℤ) → List (TermId × ℤ) → Type 0
AreQuotients k [] [] = Unit {0}
AreQuotients k (e ∷ es) (d ∷ ds) = (d.0 ≡ e.0) × (e.1 ≡ k *ℤ d.1) × AreQuotients k es ds
AreQuotients k _ _ = ⊥

-- of the coefficients `old` those of the first i entries have been divided
pub record DividedSoFar (k : ℤ) (old now : List (TermId × ℤ)) (i : ℕ) : Type 0 where
  pub before : List (TermId × ℤ)
  pub front : List (TermId × ℤ)
  pub rest : List (TermId × ℤ)
  pub old_is : old ≡ before ++ rest
  pub now_is : now ≡ front ++ rest
  pub quotients : AreQuotients k before front
  pub count : length front ≡ i

pub nothing_divided : (k : ℤ) (es : List (TermId × ℤ)) → DividedSoFar k es es 0
nothing_divided k es = record { before = []; front = []; rest = es; old_is = refl; now_is = refl; quotients = tt; count = refl }

scaled_if : (here : Bool) (k m n p q : ℤ) → m ≡ k *ℤ n → p ≡ k *ℤ q → (if here then m else p) ≡ k *ℤ (if here then n else q)
scaled_if true k m n p q first second = first
scaled_if false k m n p q first second = second

pub coefficient_in-quotients : (k : ℤ) (es ds : List (TermId × ℤ)) → AreQuotients k es ds → (a : TermId) → coefficient_in es a ≡ k *ℤ coefficient_in ds a
coefficient_in-quotients k [] [] h a = omega (arith, ints)
coefficient_in-quotients k [] (d ∷ ds) h a = absurd h
coefficient_in-quotients k (e ∷ es) [] h a = absurd h
coefficient_in-quotients k (e ∷ es) (d ∷ ds) h a =
    scaled_if (is_same a e.0) k e.1 d.1 _ (coefficient_in ds a) h.1 (coefficient_in-quotients k es ds h.2 a) ∙
    ap (λ x. k *ℤ (if is_same a x then d.1 else coefficient_in ds a)) (sym h.0)

AreQuotients-snoc : (k : ℤ) (es ds : List (TermId × ℤ)) (x : TermId) (c n : ℤ) → AreQuotients k es ds → c ≡ k *ℤ n → AreQuotients k (es ++ (x, c) ∷ []) (ds ++ (x, n) ∷ [])
AreQuotients-snoc k [] [] x c n h is = (refl, is, tt)
AreQuotients-snoc k [] (d ∷ ds) x c n h is = absurd h
AreQuotients-snoc k (e ∷ es) [] x c n h is = absurd h
AreQuotients-snoc k (e ∷ es) (d ∷ ds) x c n h is = (h.0, h.1, AreQuotients-snoc k es ds x c n h.2 is)

set_value_at-middle : (ds rest : List (TermId × ℤ)) (x : TermId) (c n : ℤ) → set_value_at (ds ++ (x, c) ∷ rest) (length ds) n ≡ ds ++ (x, n) ∷ rest
set_value_at-middle [] rest x c n = refl
set_value_at-middle (d ∷ ds) rest x c n = ap (λ l. d ∷ l) (set_value_at-middle ds rest x c n)

value-middle : (ds rest : List (TermId × ℤ)) (x : TermId) (c : ℤ) → slice_get (values_of (ds ++ (x, c) ∷ rest)) (length ds) ≡ Some c
value-middle [] rest x c = refl
value-middle (d ∷ ds) rest x c = value-middle ds rest x c

-- the next entry, and those after it
pub record NextEntry (k : ℤ) (old now : List (TermId × ℤ)) (i : ℕ) (coefficient : ℤ) : Type 0 where
  pub before : List (TermId × ℤ)
  pub front : List (TermId × ℤ)
  pub atom : TermId
  pub rest : List (TermId × ℤ)
  pub old_is : old ≡ before ++ (atom, coefficient) ∷ rest
  pub now_is : now ≡ front ++ (atom, coefficient) ∷ rest
  pub quotients : AreQuotients k before front
  pub count : length front ≡ i

inside : (a b : ℤ) → Some a ≡ Some b → a ≡ b
inside a b is = cc

next_of : (k : ℤ) (old now before front rest : List (TermId × ℤ)) (i : ℕ) (c : ℤ) → old ≡ before ++ rest → now ≡ front ++ rest → AreQuotients k before front → length front ≡ i →
    i < length now → slice_get (values_of now) i ≡ Some c → NextEntry k old now i c
next_of k old now before front [] i c old_is now_is quotients count within stands =
    let size = ap length now_is ∙ length-append front [] in
    absurd (omega arith)
next_of k old now before front (e ∷ rest) i c old_is now_is quotients count within stands =
    let is : e.1 ≡ c = inside e.1 c (sym (value-middle front rest e.0 e.1) ∙ ap₂ (λ l j. slice_get (values_of l) j) (sym now_is) count ∙ stands) in
    record {
      before = before;
      front = front;
      atom = e.0;
      rest = rest;
      old_is = old_is ∙ ap (λ n. before ++ (e.0, n) ∷ rest) is;
      now_is = now_is ∙ ap (λ n. front ++ (e.0, n) ∷ rest) is;
      quotients = quotients;
      count = count;
    }

next : (k : ℤ) (old now : List (TermId × ℤ)) (i : ℕ) (c : ℤ) → DividedSoFar k old now i → i < length now → slice_get (values_of now) i ≡ Some c → NextEntry k old now i c
next k old now i c so_far within stands =
    next_of k old now so_far.before so_far.front so_far.rest i c so_far.old_is so_far.now_is so_far.quotients so_far.count within stands

-- the next entry divided
pub one_more_divided : (k : ℤ) (old now new : List (TermId × ℤ)) (i : ℕ) → DividedSoFar k old now i → i < length now → DividesAt k i now new → DividedSoFar k old new (i + 1)
one_more_divided k old now new i so_far within here =
    let e = next k old now i here.coefficient so_far within here.stands in
    record {
      before = e.before ++ (e.atom, here.coefficient) ∷ [];
      front = e.front ++ (e.atom, here.quotient) ∷ [];
      rest = e.rest;
      old_is = e.old_is ∙ sym (append_assoc e.before ((e.atom, here.coefficient) ∷ []) e.rest);
      now_is = here.replaced ∙ ap₂ (λ l j. set_value_at l j here.quotient) e.now_is (sym e.count) ∙
          set_value_at-middle e.front e.rest e.atom here.coefficient here.quotient ∙ sym (append_assoc e.front ((e.atom, here.quotient) ∷ []) e.rest);
      quotients = AreQuotients-snoc k e.before e.front e.atom here.coefficient here.quotient e.quotients here.exact;
      count = length-append e.front ((e.atom, here.quotient) ∷ []) ∙ ap (λ n. n + 1) e.count;
    }

-- the next entry refused: the form has a coefficient that is no multiple
pub refused_here : (k : ℤ) (old now : List (TermId × ℤ)) (i : ℕ) → DividedSoFar k old now i → i < length now → IsDistinct is_same (keys_of old) → IsNoMultipleAt k i now →
    (a : TermId) × ((n : ℤ) → coefficient_in old a ≡ k *ℤ n → ⊥)
refused_here k old now i so_far within distinct here =
    let e = next k old now i here.coefficient so_far within here.stands in
    let x = e.atom in
    let fresh = absent_before e.before (e.atom, here.coefficient) e.rest (subst (λ l. IsDistinct is_same (keys_of l)) e.old_is distinct) in
    let found : coefficient_in old x ≡ here.coefficient =
    ap (λ l. coefficient_in l x) e.old_is ∙
    coefficient_in-middle e.before x here.coefficient e.rest fresh in
    (x, λ n is. here.none n (sym found ∙ is))

no_rest : (rest : List (TermId × ℤ)) (n m : ℕ) → n ≡ m + length rest → n ≤ m → rest ≡ []
no_rest [] n m is past = refl
no_rest (e ∷ rest) n m is past = absurd (omega arith)

pub all_divided : (k : ℤ) (old now : List (TermId × ℤ)) (i : ℕ) → DividedSoFar k old now i → length now ≤ i → (a : TermId) → coefficient_in old a ≡ k *ℤ coefficient_in now a
all_divided k old now i so_far past a =
    let none = no_rest so_far.rest (length now) i (ap length so_far.now_is ∙ length-append so_far.front so_far.rest ∙ ap (λ n. n + length so_far.rest) so_far.count) past in
    let old_is = so_far.old_is ∙ ap (λ l. so_far.before ++ l) none ∙ append-nil so_far.before in
    let now_is = so_far.now_is ∙ ap (λ l. so_far.front ++ l) none ∙ append-nil so_far.front in
    ap (λ l. coefficient_in l a) old_is ∙ coefficient_in-quotients k so_far.before so_far.front so_far.quotients a ∙
    ap (λ l. k *ℤ coefficient_in l a) (sym now_is)
