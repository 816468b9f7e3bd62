-- Which places of an order are preceded by later ones.
use Rattle.std.proofs.Common.{◌≡◌, ℕ, zero, suc, ◌+◌, ◌<◌, ◌≤◌, Bool, true, List, [], ◌∷◌, Option, Some, None, drop, slice_get, length, set, refl, ap, sym, ◌∙◌, add-one, min, inl, inr, arith}
use Rattle.std.proofs.lemmas.Bool.{cases_order, ltb-true, lt-ltb}
use Rattle.std.proofs.lemmas.Bool.Decides.{leb_tells}
use Rattle.lc_history.proofs.Tables.{slice_get-set, slice_get-set_other}
use Rattle.lc_history.specs.Spans.{earlier, return_of, earliest_return, is_before, is_preceded}
use Rattle.lc_history.specs.declared.spans.Span.{Span}

pub earliest-drop : (spans : List (Option Span)) (n : ℕ) (s : Option Span) → slice_get spans n ≡ Some s
    → earliest_return (drop n spans) ≡ earlier (earliest_return (drop (n + 1) spans)) (return_of s)
earliest-drop [] n s at = absurd cc
earliest-drop (t ∷ spans) zero s at = let e : t ≡ s = cc in ap (λ z. earlier (earliest_return spans) (return_of z)) e
earliest-drop (t ∷ spans) (suc n) s at = rw (add-one (suc n)) (rw (add-one n) at (earliest-drop spans n s at))

pub preceded-at : (spans : List (Option Span)) (n : ℕ) (s : Option Span) → slice_get spans n ≡ Some s → is_preceded spans n ≡ is_before (earliest_return (drop (n + 1) spans)) s
preceded-at [] n s at = absurd cc
preceded-at (t ∷ spans) zero s at = let e : t ≡ s = cc in ap (is_before (earliest_return spans)) e
preceded-at (t ∷ spans) (suc n) s at = rw (add-one (suc n)) (rw (add-one n) at (preceded-at spans n s at))

pub preceded_next : (spans : List (Option Span)) (flags : List Bool) (m n : ℕ) (s : Option Span) (b : Bool) (e : Option ℕ) → m ≡ n + 1 → length flags ≡ length spans → n < length spans
    → slice_get spans n ≡ Some s → ((p : ℕ) → m ≤ p → p < length spans → slice_get flags p ≡ Some (is_preceded spans p)) → e ≡ earliest_return (drop m spans) → b ≡ is_before e s
    → (p : ℕ) → n ≤ p → p < length spans → slice_get (set flags n b) p ≡ Some (is_preceded spans p)
preceded_next spans flags m n s b e next size within at each is before p le lt =
    elim (cases_order p n) [
      | inl same ↦ ap (λ z. slice_get (set flags n b) z) same ∙ slice_get-set flags n b (omega arith) ∙ ap Some before ∙ ap (λ z. Some (is_before z s)) is
          ∙ ap (λ k. Some (is_before (earliest_return (drop k spans)) s)) next ∙ ap Some (sym (preceded-at spans n s at)) ∙ ap (λ k. Some (is_preceded spans k)) (sym same)
      | inr (inl less) ↦ absurd (omega arith)
      | inr (inr more) ↦ slice_get-set_other flags n p b (λ z. omega arith) ∙ each p (omega arith) lt
    ]

pub earliest_next : (spans : List (Option Span)) (m n : ℕ) (s : Option Span) (e f : Option ℕ) → m ≡ n + 1 → slice_get spans n ≡ Some s → e ≡ earliest_return (drop m spans) → f ≡ earlier e (return_of s)
    → f ≡ earliest_return (drop n spans)
earliest_next spans m n s e f next at is then =
    then ∙ ap (λ z. earlier z (return_of s)) is ∙ ap (λ k. earlier (earliest_return (drop k spans)) (return_of s)) next ∙ sym (earliest-drop spans n s at)

-- the earliest return is that of one of the calls
pub record IsEarliest (spans : List (Option Span)) (r : ℕ) : Type 0 where
  pub place : ℕ
  pub span : Span
  pub stands : slice_get spans place ≡ Some (Some span)
  pub returned : span.returned ≡ Some r

behind_first : (s : Option Span) (spans : List (Option Span)) (r : ℕ) → IsEarliest spans r → IsEarliest (s ∷ spans) r
behind_first s spans r e = record { place = suc e.place; span = e.span; stands = e.stands; returned = e.returned }

first_returns : (s : Option Span) (spans : List (Option Span)) (r : ℕ) → return_of s ≡ Some r → IsEarliest (s ∷ spans) r
first_returns None spans r e = absurd cc
first_returns (Some span) spans r e = record { place = 0; span = span; stands = refl; returned = e }

one_of : (s : Option Span) (spans : List (Option Span)) (r : ℕ) (a b : Option ℕ) → earlier a b ≡ Some r → ((i : ℕ) → a ≡ Some i → IsEarliest spans i) → return_of s ≡ b → IsEarliest (s ∷ spans) r
one_of s spans r None b e rest is = first_returns s spans r (is ∙ e)
one_of s spans r (Some a) None e rest is = behind_first s spans r (rest r e)
one_of s spans r (Some a) (Some b) e rest is =
    elim (leb_tells a b) [
      | inl h ↦ behind_first s spans r (let m : min a b ≡ a = omega arith in rest r (sym (ap Some m) ∙ e))
      | inr h ↦ first_returns s spans r (let m : min a b ≡ b = omega arith in is ∙ sym (ap Some m) ∙ e)
    ]

pub earliest_is : (spans : List (Option Span)) (r : ℕ) → earliest_return spans ≡ Some r → IsEarliest spans r
earliest_is [] r e = absurd cc
earliest_is (s ∷ spans) r e = one_of s spans r (earliest_return spans) (return_of s) e (λ i h. earliest_is spans i h) refl

earlier_left : (a : ℕ) (b : Option ℕ) → (e : ℕ) × (earlier (Some a) b ≡ Some e) × (e ≤ a)
earlier_left a None = (a, refl, omega arith)
earlier_left a (Some b) = (min a b, refl, omega arith)

earlier_right : (a : Option ℕ) (b : ℕ) → (e : ℕ) × (earlier a (Some b) ≡ Some e) × (e ≤ b)
earlier_right None b = (b, refl, omega arith)
earlier_right (Some a) b = (min a b, refl, omega arith)

-- the earliest return is no later than that of each call
pub no_later : (spans : List (Option Span)) (q : ℕ) (t : Span) (r : ℕ) → slice_get spans q ≡ Some (Some t) → t.returned ≡ Some r → (e : ℕ) × (earliest_return spans ≡ Some e) × (e ≤ r)
no_later [] q t r at is = absurd cc
no_later (s ∷ spans) zero t r at is =
    let same : s ≡ Some t = cc in
    let it : return_of s ≡ Some r = ap return_of same ∙ is in
    let found = earlier_right (earliest_return spans) r in
    (found.0, ap (earlier (earliest_return spans)) it ∙ found.1, found.2)
no_later (s ∷ spans) (suc q) t r at is =
    let rest = no_later spans q t r at is in
    let found = earlier_left rest.0 (return_of s) in
    (found.0, ap (λ a. earlier a (return_of s)) rest.1 ∙ found.1, omega (arith, found.2, rest.2))

-- a call at a later place returns before this one begins
pub record IsLate (spans : List (Option Span)) (p : ℕ) : Type 0 where
  pub later : ℕ
  pub this : Span
  pub other : Span
  pub returned : ℕ
  pub stands : slice_get spans p ≡ Some (Some this)
  pub behind : p < later
  pub at : slice_get spans later ≡ Some (Some other)
  pub returns : other.returned ≡ Some returned
  pub before : returned < this.called

late_here : (s : Option Span) (spans : List (Option Span)) (e : Option ℕ) → earliest_return spans ≡ e → is_before e s ≡ true → IsLate (s ∷ spans) 0
late_here s spans None is b = absurd cc
late_here None spans (Some r) is b = absurd cc
late_here (Some s) spans (Some r) is b =
    let e = earliest_is spans r is in
    record { later = suc e.place; this = s; other = e.span; returned = r; stands = refl; behind = omega arith; at = e.stands; returns = e.returned; before = ltb-true r s.called b }

pub preceded_is_late : (spans : List (Option Span)) (p : ℕ) → is_preceded spans p ≡ true → IsLate spans p
preceded_is_late [] p b = absurd cc
preceded_is_late (s ∷ spans) zero b = late_here s spans (earliest_return spans) refl b
preceded_is_late (s ∷ spans) (suc p) b =
    let l = preceded_is_late spans p b in
    record { later = suc l.later; this = l.this; other = l.other; returned = l.returned; stands = l.stands; behind = omega (arith, l.behind); at = l.at; returns = l.returns; before = l.before }

pub preceded_where : (spans : List (Option Span)) (p q : ℕ) (s t : Span) (r : ℕ) → slice_get spans p ≡ Some (Some s) → p < q → slice_get spans q ≡ Some (Some t) → t.returned ≡ Some r → r < s.called → is_preceded spans p ≡ true
preceded_where [] p q s t r at lt is back before = absurd cc
preceded_where (x ∷ spans) zero zero s t r at lt is back before = absurd (omega arith)
preceded_where (x ∷ spans) zero (suc q) s t r at lt is back before =
    let same : x ≡ Some s = cc in
    let e = no_later spans q t r is back in
    ap (is_before (earliest_return spans)) same ∙ ap (λ z. is_before z (Some s)) e.1 ∙ lt-ltb e.0 s.called (omega (arith, e.2))
preceded_where (x ∷ spans) (suc p) zero s t r at lt is back before = absurd (omega arith)
preceded_where (x ∷ spans) (suc p) (suc q) s t r at lt is back before = preceded_where spans p q s t r at (omega arith) is back before
