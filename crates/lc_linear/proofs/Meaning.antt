-- What a form says of its term's value.
use Rattle.std.proofs.Common.{◌≡◌, ◌⊎◌, inl, inr, Bool, true, false, Some, None, List, [], ◌∷◌, refl, sym, ap, ◌∙◌, arith}
use Rattle.std.specs.Prelude.{ℤ, pos, ◌+ℤ◌, ◌-ℤ◌, ◌*ℤ◌, if◌then◌else◌}
use Rattle.std.specs.List.{AllByRecursion, IsDistinct}
use Rattle.std.specs.Map.{keys_of}
use Rattle.std.proofs.lemmas.Int.{ints}
use Rattle.std.proofs.lemmas.Map.Keys.{IsDistinct-head, IsDistinct-tail}
use Rattle.lc_term.specs.Equal.{term_eq}
use Rattle.lc_term.specs.EqualLaws.{Decides-term_eq, term_eq_equiv}
use Rattle.lc_term.specs.Meaning.{State, Env, value}
use Rattle.lc_term.specs.Syntax.{Term, Number, Variable, Bound, Add, Subtract, Multiply, Read}
use Rattle.lc_linear.proofs.Products.{mul-add, mul-sub, mul_assoc, mul_comm, zero-mul}
use Rattle.lc_linear.specs.Form.{Place, form_of}
use Rattle.lc_linear.specs.Listed.{coefficient_in, listed, listed_value}

-- the value of a term by the values of its atoms
abbrev through : (Term → ℤ) → Term → ℤ
through v (Number n) = n
through v (Variable k) = v (Variable k)
through v (Bound k) = v (Bound k)
through v (Add t u) = through v t +ℤ through v u
through v (Subtract t u) = through v t -ℤ through v u
through v (Multiply k t) = k *ℤ through v t
through v (Read c i) = v (Read c i)

through-value : (s : State) (e b : Env) (t : Term) → through (value s e b) t ≡ value s e b t
through-value s e b (Number n) = refl
through-value s e b (Variable k) = refl
through-value s e b (Bound k) = refl
through-value s e b (Add t u) = rw (through-value s e b t, through-value s e b u) refl
through-value s e b (Subtract t u) = rw (through-value s e b t, through-value s e b u) refl
through-value s e b (Multiply k t) = rw (through-value s e b t) refl
through-value s e b (Read c i) = refl

-- the values with an atom's value 0
abbrev without : Term → (Term → ℤ) → Term → ℤ
without a v x = if term_eq a x then pos 0 else v x

at_atom : (a x : Term) (v : Term → ℤ) (same : Bool) → term_eq a x ≡ same →
    (if same then pos 0 else v x) +ℤ (if same then pos 1 else pos 0) *ℤ v a ≡ v x
at_atom a x v true is =
    let e : v a ≡ v x = ap v ((Decides-term_eq a x).0 is) in
    omega (arith, ints)
at_atom a x v false is = omega (arith, ints)

-- to take an atom's value out is to take out its coefficient's share
through-without : (a : Term) (v : Term → ℤ) (t : Term) → through (without a v) t +ℤ form_of t (Some a) *ℤ v a ≡ through v t
through-without a v (Number n) = omega (arith, ints)
through-without a v (Variable k) = at_atom a (Variable k) v (term_eq a (Variable k)) refl
through-without a v (Bound k) = at_atom a (Bound k) v (term_eq a (Bound k)) refl
through-without a v (Add t u) =
    let x = through-without a v t in
    let y = through-without a v u in
    rw (mul_comm (form_of t (Some a) +ℤ form_of u (Some a)) (v a), mul-add (v a) (form_of t (Some a)) (form_of u (Some a)), mul_comm (v a) (form_of t (Some a)), mul_comm (v a) (form_of u (Some a))) (omega (arith, ints))
through-without a v (Subtract t u) =
    let x = through-without a v t in
    let y = through-without a v u in
    rw (mul_comm (form_of t (Some a) -ℤ form_of u (Some a)) (v a), mul-sub (v a) (form_of t (Some a)) (form_of u (Some a)), mul_comm (v a) (form_of t (Some a)), mul_comm (v a) (form_of u (Some a))) (omega (arith, ints))
through-without a v (Multiply k t) =
    let x = through-without a v t in
    rw (mul_assoc k (form_of t (Some a)) (v a)) (sym (mul-add k (through (without a v) t) (form_of t (Some a) *ℤ v a)) ∙ ap (λ z. k *ℤ z) x)
through-without a v (Read c i) = at_atom a (Read c i) v (term_eq a (Read c i)) refl

-- an atom that adds nothing to the value of a term
abbrev IsNothing : (Term → ℤ) → Term → Term → Type 0
IsNothing v t a = (form_of t (Some a) ≡ pos 0) ⊎ (v a ≡ pos 0)

nothing_product : (v : Term → ℤ) (t a : Term) → IsNothing v t a → form_of t (Some a) *ℤ v a ≡ pos 0
nothing_product v t a (inl is) = zero-mul (form_of t (Some a)) (v a) is
nothing_product v t a (inr is) = mul_comm (form_of t (Some a)) (v a) ∙ zero-mul (v a) (form_of t (Some a)) is

without_nothing : (t a : Term) (v : Term → ℤ) → IsNothing v t a → through (without a v) t ≡ through v t
without_nothing t a v none =
    let whole = through-without a v t in
    let share = nothing_product v t a none in
    omega (arith, ints)

-- the values with those of a term's atoms 0
abbrev zeroed : Term → (Term → ℤ) → Term → ℤ
zeroed (Number n) v = v
zeroed (Variable k) v = without (Variable k) v
zeroed (Bound k) v = without (Bound k) v
zeroed (Add t u) v = zeroed t (zeroed u v)
zeroed (Subtract t u) v = zeroed t (zeroed u v)
zeroed (Multiply k t) v = zeroed t v
zeroed (Read c i) v = without (Read c i) v

without_zero : (same : Bool) (n : ℤ) → n ≡ pos 0 → (if same then pos 0 else n) ≡ pos 0
without_zero true n h = refl
without_zero false n h = h

without_self : (a : Term) (v : Term → ℤ) → without a v a ≡ pos 0
without_self a v = rw ((Decides-term_eq a a).1 refl) refl

keeps_zero : (t : Term) (v : Term → ℤ) (x : Term) → v x ≡ pos 0 → zeroed t v x ≡ pos 0
keeps_zero (Number n) v x h = h
keeps_zero (Variable k) v x h = without_zero (term_eq (Variable k) x) (v x) h
keeps_zero (Bound k) v x h = without_zero (term_eq (Bound k) x) (v x) h
keeps_zero (Add t u) v x h = keeps_zero t (zeroed u v) x (keeps_zero u v x h)
keeps_zero (Subtract t u) v x h = keeps_zero t (zeroed u v) x (keeps_zero u v x h)
keeps_zero (Multiply k t) v x h = keeps_zero t v x h
keeps_zero (Read c i) v x h = without_zero (term_eq (Read c i) x) (v x) h

keeps_nothing : (u : Term) (v : Term → ℤ) (t a : Term) → IsNothing v t a → IsNothing (zeroed u v) t a
keeps_nothing u v t a (inl is) = inl is
keeps_nothing u v t a (inr is) = inr (keeps_zero u v a is)

through-zeroed : (t : Term) (u : Term) (v : Term → ℤ) → ((a : Term) → IsNothing v t a) → through (zeroed u v) t ≡ through v t
through-zeroed t (Number n) v none = refl
through-zeroed t (Variable k) v none = without_nothing t (Variable k) v (none (Variable k))
through-zeroed t (Bound k) v none = without_nothing t (Bound k) v (none (Bound k))
through-zeroed t (Add u w) v none = through-zeroed t u (zeroed w v) (λ a. keeps_nothing w v t a (none a)) ∙ through-zeroed t w v none
through-zeroed t (Subtract u w) v none = through-zeroed t u (zeroed w v) (λ a. keeps_nothing w v t a (none a)) ∙ through-zeroed t w v none
through-zeroed t (Multiply k u) v none = through-zeroed t u v none
through-zeroed t (Read c i) v none = without_nothing t (Read c i) v (none (Read c i))

-- a fact of each atom of a term
abbrev EachAtom : (Term → Type 0) → Term → Type 0
EachAtom P (Number n) = Unit {0}
EachAtom P (Variable k) = P (Variable k)
EachAtom P (Bound k) = P (Bound k)
EachAtom P (Add t u) = EachAtom P t × EachAtom P u
EachAtom P (Subtract t u) = EachAtom P t × EachAtom P u
EachAtom P (Multiply k t) = EachAtom P t
EachAtom P (Read c i) = P (Read c i)

EachAtom-map : {P Q : Term → Type 0} → ((x : Term) → P x → Q x) → (t : Term) → EachAtom P t → EachAtom Q t
EachAtom-map f (Number n) h = tt
EachAtom-map f (Variable k) h = f (Variable k) h
EachAtom-map f (Bound k) h = f (Bound k) h
EachAtom-map f (Add t u) h = (EachAtom-map f t h.0, EachAtom-map f u h.1)
EachAtom-map f (Subtract t u) h = (EachAtom-map f t h.0, EachAtom-map f u h.1)
EachAtom-map f (Multiply k t) h = EachAtom-map f t h
EachAtom-map f (Read c i) h = f (Read c i) h

atoms_zeroed : (t : Term) (v : Term → ℤ) → EachAtom (λ x. zeroed t v x ≡ pos 0) t
atoms_zeroed (Number n) v = tt
atoms_zeroed (Variable k) v = without_self (Variable k) v
atoms_zeroed (Bound k) v = without_self (Bound k) v
atoms_zeroed (Add t u) v = (atoms_zeroed t (zeroed u v), EachAtom-map (λ x h. keeps_zero t (zeroed u v) x h) u (atoms_zeroed u v))
atoms_zeroed (Subtract t u) v = (atoms_zeroed t (zeroed u v), EachAtom-map (λ x h. keeps_zero t (zeroed u v) x h) u (atoms_zeroed u v))
atoms_zeroed (Multiply k t) v = atoms_zeroed t v
atoms_zeroed (Read c i) v = without_self (Read c i) v

through_zeros : (w : Term → ℤ) (t : Term) → EachAtom (λ x. w x ≡ pos 0) t → through w t ≡ form_of t None
through_zeros w (Number n) h = refl
through_zeros w (Variable k) h = h
through_zeros w (Bound k) h = h
through_zeros w (Add t u) h = rw (through_zeros w t h.0, through_zeros w u h.1) refl
through_zeros w (Subtract t u) h = rw (through_zeros w t h.0, through_zeros w u h.1) refl
through_zeros w (Multiply k t) h = rw (through_zeros w t h) refl
through_zeros w (Read c i) h = h

-- a term to which no atom adds anything has its constant's value
through_constant : (v : Term → ℤ) (t : Term) → ((a : Term) → IsNothing v t a) → through v t ≡ form_of t None
through_constant v t none = sym (through-zeroed t t v none) ∙ through_zeros (zeroed t v) t (atoms_zeroed t v)

-- a term all of whose coefficients are 0 has its constant's value
pub value_constant : (s : State) (e b : Env) (t : Term) → ((a : Term) → form_of t (Some a) ≡ pos 0) → value s e b t ≡ form_of t None
value_constant s e b t vanishes = sym (through-value s e b t) ∙ through_constant (value s e b) t (λ a. inl (vanishes a))

-- each atom is one of a list, with its coefficient, or adds nothing
abbrev IsListed : (Term → ℤ) → Term → List (Term × ℤ) → Term → Type 0
IsListed v t es a = (form_of t (Some a) ≡ coefficient_in es a) ⊎ (v a ≡ pos 0)

-- the share of the first entry's atom
first_share : (v : Term → ℤ) (t : Term) (e : Term × ℤ) (es : List (Term × ℤ)) → IsListed v t (e ∷ es) e.0 → form_of t (Some e.0) *ℤ v e.0 ≡ e.1 *ℤ v e.0
first_share v t e es (inl is) =
    let here : coefficient_in (e ∷ es) e.0 ≡ e.1 = rw ((Decides-term_eq e.0 e.0).1 refl) refl in
    ap (λ n. n *ℤ v e.0) (is ∙ here)
first_share v t e es (inr is) =
    mul_comm (form_of t (Some e.0)) (v e.0) ∙ zero-mul (v e.0) (form_of t (Some e.0)) is ∙ sym (mul_comm e.1 (v e.0) ∙ zero-mul (v e.0) e.1 is)

-- without it the other entries list the atoms that are left
rest_listed : (v : Term → ℤ) (t : Term) (e : Term × ℤ) (es : List (Term × ℤ)) (a : Term) (same : Bool) → term_eq e.0 a ≡ same → IsListed v t (e ∷ es) a →
    (form_of t (Some a) ≡ coefficient_in es a) ⊎ ((if same then pos 0 else v a) ≡ pos 0)
rest_listed v t e es a true is h = inr refl
rest_listed v t e es a false is (inl h) =
    let other : term_eq a e.0 ≡ false = term_eq_equiv.symm a e.0 ∙ is in
    inl (h ∙ rw other refl)
rest_listed v t e es a false is (inr h) = inr h

apart_value : (a : Term) (v : Term → ℤ) (n : ℤ) (es : List (Term × ℤ)) → AllByRecursion (λ x. term_eq a x ≡ false) (keys_of es) → listed_value (without a v) n es ≡ listed_value v n es
apart_value a v n [] h = refl
apart_value a v n (e ∷ es) h = rw (h.0, apart_value a v n es h.1) refl

through-listed : (t : Term) (n : ℤ) → form_of t None ≡ n → (es : List (Term × ℤ)) (v : Term → ℤ) → IsDistinct term_eq (keys_of es) → ((a : Term) → IsListed v t es a) →
    through v t ≡ listed_value v n es
through-listed t n is [] v distinct all = through_constant v t all ∙ is
through-listed t n is (e ∷ es) v distinct all =
    let rest = through-listed t n is es (without e.0 v) (IsDistinct-tail term_eq e.0 (keys_of es) distinct) (λ a. rest_listed v t e es a (term_eq e.0 a) refl (all a)) in
    let apart = apart_value e.0 v n es (IsDistinct-head term_eq e.0 (keys_of es) distinct) in
    let share = first_share v t e es (all e.0) in
    let whole = through-without e.0 v t in
    omega (arith, ints)

-- the value of a term by a list of its form's coefficients
pub value-listed : (s : State) (e b : Env) (t : Term) (n : ℤ) (es : List (Term × ℤ)) → IsDistinct term_eq (keys_of es) → ((p : Place) → form_of t p ≡ listed n es p) →
    value s e b t ≡ listed_value (value s e b) n es
value-listed s e b t n es distinct all = sym (through-value s e b t) ∙ through-listed t n (all None) es (value s e b) distinct (λ a. inl (all (Some a)))

-- terms of the same form have the same value
pub value_same : (s : State) (e b : Env) (t u : Term) → ((p : Place) → form_of t p ≡ form_of u p) → value s e b t ≡ value s e b u
value_same s e b t u same =
    let zero = value_constant s e b (Subtract t u) (λ a. let is = same (Some a) in omega (arith, ints)) in
    let is = same None in
    omega (arith, ints)
