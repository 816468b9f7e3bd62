-- What is seen of a formula is so.
use Rattle.std.proofs.Common.{◌≡◌, ℕ, Bool, true, false, List, [], ◌∷◌, refl, sym, ap, ap₂, ◌∙◌, subst}
use Rattle.std.specs.Prelude.{ℤ, ◌+ℤ◌, ◌-ℤ◌, ◌*ℤ◌, ◌≤ℤ◌, int_le, Option, Some, None, Result, Ok, Err, IfOk, if◌then◌else◌}
use Rattle.std.specs.Ordering.{int_eq}
use Rattle.std.specs.Bool.{Decides}
use Rattle.std.proofs.lemmas.Bool.Decides.{Decides-int_eq}
use Rattle.lc_term.proofs.Truth.{Decides-int_le}
use Rattle.lc_term.proofs.Stable.{Holds-stable}
use Rattle.lc_term.specs.Meaning.{State, Env, push, outside, value, Holds, AllHold, NoneHolds}
use Rattle.lc_term.specs.Syntax.{Formula, Le, Eq, Not, And, Or, Implies, Forall, Exists, Formulas, none, more}
use Rattle.lc_look.specs.Computing.{number}
use Rattle.lc_look.specs.Looking.{seen_if, compared, opposite, both, at_most_open, look_each, look_tried, look_in, look_all, look_none, Says, LooksAreRight}
use Rattle.lc_look.specs.declared.seen.Seen.{Seen}
use Rattle.lc_look.specs.declared.seen.Seen.TheVariants.{Yes, No, Open}
use Rattle.lc_look.specs.Ranges.{range_of, premise_range, numbers_in}
use Rattle.lc_look.proofs.Numbers.{number_right}
use Rattle.lc_look.proofs.Ranging.{EachOf, forall-right, exists-right}

says_if : (r : Bool) (P : Type 0) → Decides r P → Says (seen_if r) P
says_if true P d = d.0 refl
says_if false P d = λ p. (let t : false ≡ true = d.1 p in cc)

says_compared : (test : ℤ → ℤ → Bool) (P : ℤ → ℤ → Type 0) → ((x y : ℤ) → Decides (test x y) (P x y)) → (m n : Option ℤ) (x y : ℤ) →
    ((k : ℤ) → m ≡ Some k → x ≡ k) → ((k : ℤ) → n ≡ Some k → y ≡ k) → Says (compared test m n) (P x y)
says_compared test P d None n x y f g = tt
says_compared test P d (Some k) None x y f g = tt
says_compared test P d (Some k) (Some j) x y f g =
    subst (λ z. Says (seen_if (test k j)) (P z y)) (sym (f k refl)) (subst (λ z. Says (seen_if (test k j)) (P k z)) (sym (g j refl)) (says_if (test k j) (P k j) (d k j)))

says_opposite : (l : Seen) (P : Type 0) → Says l P → Says (opposite l) (P → ⊥)
says_opposite Yes P h = λ n. n h
says_opposite No P h = h
says_opposite Open P h = tt

says_both : (l m : Seen) (P Q : Type 0) → Says l P → Says m Q → Says (both l m) (P × Q)
says_both Yes Yes P Q p q = (p, q)
says_both Yes No P Q p q = λ x. q x.1
says_both Yes Open P Q p q = tt
says_both No m P Q p q = λ x. p x.0
says_both Open No P Q p q = λ x. q x.1
says_both Open Yes P Q p q = tt
says_both Open Open P Q p q = tt

-- of a fact that is the same as another
says_same : (l : Seen) (P Q : Type 0) → (P → Q) → (Q → P) → Says l P → Says l Q
says_same Yes P Q f g h = f h
says_same No P Q f g h = λ q. h (g q)
says_same Open P Q f g h = tt

-- of a fact from which another follows, no more is seen than that it does not hold
says_less : (l : Seen) (P Q : Type 0) → (Q → P) → Says l P → Says (at_most_open l) Q
says_less Yes P Q g h = tt
says_less No P Q g h = λ q. h (g q)
says_less Open P Q g h = tt

each_of : (xs : List ℤ) (P : ℤ → Type 0) → ((x : ℤ) → P x) → EachOf xs P
each_of [] P h = tt
each_of (x ∷ xs) P h = (h x, each_of xs P h)

says_each : (p : ℤ → Seen) (P : ℤ → Type 0) (xs : List ℤ) → ((x : ℤ) → Says (p x) (P x)) → Says (look_each p xs) (EachOf xs P)
says_each p P [] h = tt
says_each p P (x ∷ xs) h = says_both (p x) (look_each p xs) (P x) (EachOf xs P) (h x) (says_each p P xs h)

-- of a fact of all numbers, which is so if it is at each number of a range
says_tried : (p : ℤ → Seen) (P : ℤ → Type 0) (ns : List ℤ) (range : Option (List ℤ)) (Q : Type 0) → ((x : ℤ) → Says (p x) (P x)) → (Q → (x : ℤ) → P x) →
    ((xs : List ℤ) → range ≡ Some xs → EachOf xs P → Q) → Says (look_tried p ns range) Q
says_tried p P ns None Q h down up = says_less (look_each p ns) (EachOf ns P) Q (λ q. each_of ns P (down q)) (says_each p P ns h)
says_tried p P ns (Some xs) Q h down up = says_same (look_each p xs) (EachOf xs P) Q (up xs refl) (λ q. each_of xs P (down q)) (says_each p P xs h)

mutual
  looks_in : (ns : List ℤ) (s : State) (e b : Env) (f : Formula) → Says (look_in ns s e b f) (Holds s e b f)
  looks_in ns s e b (Le t u) =
      says_compared int_le ◌≤ℤ◌ Decides-int_le (number s e b t) (number s e b u) (value s e b t) (value s e b u) (number_right s e b t) (number_right s e b u)
  looks_in ns s e b (Eq t u) =
      says_compared int_eq (λ x y. x ≡ y) Decides-int_eq (number s e b t) (number s e b u) (value s e b t) (value s e b u) (number_right s e b t) (number_right s e b u)
  looks_in ns s e b (Not f) = says_opposite (look_in ns s e b f) (Holds s e b f) (looks_in ns s e b f)
  looks_in ns s e b (And fs) = looks_all ns s e b fs
  looks_in ns s e b (Or fs) = says_opposite (look_none ns s e b fs) (NoneHolds s e b fs) (looks_none ns s e b fs)
  looks_in ns s e b (Implies f g) =
      says_same (opposite (both (look_in ns s e b f) (opposite (look_in ns s e b g)))) ((Holds s e b f × (Holds s e b g → ⊥)) → ⊥) (Holds s e b f → Holds s e b g)
      (λ h p. Holds-stable s e b g (λ q. h (p, q)))
      (λ h x. x.1 (h x.0))
      (says_opposite (both (look_in ns s e b f) (opposite (look_in ns s e b g))) (Holds s e b f × (Holds s e b g → ⊥))
      (says_both (look_in ns s e b f) (opposite (look_in ns s e b g)) (Holds s e b f) (Holds s e b g → ⊥) (looks_in ns s e b f) (says_opposite (look_in ns s e b g) (Holds s e b g) (looks_in ns s e b g))))
  looks_in ns s e b (Forall f) =
      says_tried (λ x. look_in ns s e (push x b) f) (λ x. Holds s e (push x b) f) ns (numbers_in (premise_range s e f)) (Holds s e b (Forall f)) (λ x. looks_in ns s e (push x b) f)
      (λ h. h) (λ xs is all. forall-right s e b f xs is all)
  looks_in ns s e b (Exists f) =
      says_opposite (look_tried (λ x. opposite (look_in ns s e (push x b) f)) ns (numbers_in (range_of s e f))) ((x : ℤ) → Holds s e (push x b) f → ⊥)
      (says_tried (λ x. opposite (look_in ns s e (push x b) f)) (λ x. Holds s e (push x b) f → ⊥) ns (numbers_in (range_of s e f)) ((x : ℤ) → Holds s e (push x b) f → ⊥)
      (λ x. says_opposite (look_in ns s e (push x b) f) (Holds s e (push x b) f) (looks_in ns s e (push x b) f))
      (λ h. h) (λ xs is all. exists-right s e b f xs is all))

  looks_all : (ns : List ℤ) (s : State) (e b : Env) (fs : Formulas) → Says (look_all ns s e b fs) (AllHold s e b fs)
  looks_all ns s e b none = tt
  looks_all ns s e b (more f fs) = says_both (look_in ns s e b f) (look_all ns s e b fs) (Holds s e b f) (AllHold s e b fs) (looks_in ns s e b f) (looks_all ns s e b fs)

  looks_none : (ns : List ℤ) (s : State) (e b : Env) (fs : Formulas) → Says (look_none ns s e b fs) (NoneHolds s e b fs)
  looks_none ns s e b none = tt
  looks_none ns s e b (more f fs) = says_both (opposite (look_in ns s e b f)) (look_none ns s e b fs) (Holds s e b f → ⊥) (NoneHolds s e b fs) (says_opposite (look_in ns s e b f) (Holds s e b f) (looks_in ns s e b f)) (looks_none ns s e b fs)

pub looking_is_right : LooksAreRight
looking_is_right ns s e f = looks_in ns s e outside f

-- what is answered of a formula is so
pub seen_answer_says : {E : Type 0} (r : Result Seen E) (seen : Seen) (P : Type 0) → IfOk r (λ l. l ≡ seen) → Says seen P → IfOk r (λ l. Says l P)
seen_answer_says (Ok l) seen P is h = subst (λ m. Says m P) (sym is) h
seen_answer_says (Err e) seen P is h = tt
