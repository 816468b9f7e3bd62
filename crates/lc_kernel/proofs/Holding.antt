-- What each rule takes from a formula that holds.
use Rattle.std.proofs.Common.{◌≡◌, List, [], ◌∷◌, ◌++◌, Option, Some, None, refl, sym, subst, arith}
use Rattle.std.specs.Prelude.{ℤ, pos, ◌+ℤ◌, ◌≤ℤ◌}
use Rattle.std.specs.List.{AllByRecursion}
use Rattle.std.proofs.lemmas.Int.{ints}
use Rattle.lc_term.proofs.Stable.{Holds-stable}
use Rattle.lc_term.specs.Meaning.{State, Env, push, outside, value, Holds, AllHold, NoneHolds, EachHolds}
use Rattle.lc_term.specs.Syntax.{Term, Subtract, Formula, Le, Eq, Not, And, Or, Implies, Forall, Exists, Formulas, none, more, formulas, parts}
use Rattle.lc_linear.proofs.Refutes.{closes_refutes, divided_holds}
use Rattle.lc_linear.specs.Closing.{Entry, Closes}
use Rattle.lc_linear.specs.Divided.{IsDivided}
use Rattle.lc_linear.specs.Form.{form_of}
use Rattle.lc_kernel.specs.Table.{conjuncts, negations, failing, alternatives, less, pushed_inward, pushed, for_all, for_some, sides, apart, excess, hypothesis, each, entry_before, entries, IsQuotient}
use Rattle.lc_kernel.proofs.Found.{hypothesis_has}

not_at_most : (a b : ℤ) → (a ≤ℤ b → ⊥) → (b +ℤ pos 1) ≤ℤ a
not_at_most a b h = grind (arith, ints)

between : (a b : ℤ) → ((a +ℤ pos 1) ≤ℤ b → ⊥) → ((b +ℤ pos 1) ≤ℤ a → ⊥) → a ≡ b
between a b h g = grind (arith, ints)

module _ (s : State) (e : Env) where
  abbrev pub IsRefuted : List Formula → Type 0
  IsRefuted fs = EachHolds s e fs → ⊥

  -- none of these formulas holds
  abbrev pub NoneOf : List Formula → Type 0
  NoneOf [] = Unit {0}
  NoneOf (f ∷ fs) = (Holds s e outside f → ⊥) × NoneOf fs

  -- no branch holds, each formula of it
  abbrev pub AllRefuted : List (List Formula) → Type 0
  AllRefuted [] = Unit {0}
  AllRefuted (b ∷ bs) = IsRefuted b × AllRefuted bs

  pub each_append : (fs gs : List Formula) → EachHolds s e fs → EachHolds s e gs → EachHolds s e (fs ++ gs)
  each_append [] gs h g = g
  each_append (f ∷ fs) gs h g = (h.0, each_append fs gs h.1 g)

  all_hold : (H : List Formula) → EachHolds s e H → AllByRecursion (Holds s e outside) H
  all_hold [] all = tt
  all_hold (f ∷ fs) all = (all.0, all_hold fs all.1)

  pub hypothesis_holds : (H : List Formula) (h : ℤ) (f : Formula) → hypothesis H h ≡ Some f → EachHolds s e H → Holds s e outside f
  hypothesis_holds H h f is all = hypothesis_has (Holds s e outside) H h f is (all_hold H all)

  -- ---- parts

  parts_hold : (fs : Formulas) → AllHold s e outside fs → EachHolds s e (parts fs)
  parts_hold none h = tt
  parts_hold (more f fs) h = (h.0, parts_hold fs h.1)

  no_parts_hold : (fs : Formulas) → NoneOf (parts fs) → NoneHolds s e outside fs
  no_parts_hold none h = tt
  no_parts_hold (more f fs) h = (h.0, no_parts_hold fs h.1)

  no_negations_hold : (fs : Formulas) → NoneOf (negations (parts fs)) → AllHold s e outside fs
  no_negations_hold none h = tt
  no_negations_hold (more f fs) h = (Holds-stable s e outside f h.0, no_negations_hold fs h.1)

  negations_hold : (fs : Formulas) → ((NoneHolds s e outside fs → ⊥) → ⊥) → AllHold s e outside (formulas (negations (parts fs)))
  negations_hold none h = tt
  negations_hold (more f fs) h = (λ x. h (λ n. n.0 x), negations_hold fs (λ k. h (λ n. k n.1)))

  -- a branch for each formula, and no branch holds
  pub each_refuted : (fs : List Formula) → AllRefuted (each fs) → NoneOf fs
  each_refuted [] h = tt
  each_refuted (f ∷ fs) h = (λ x. h.0 (x, tt), each_refuted fs h.1)

  -- ---- split, cases, push

  pub conjuncts_hold : (f : Formula) (fs : List Formula) → conjuncts f ≡ Some fs → Holds s e outside f → EachHolds s e fs
  conjuncts_hold (And gs) fs is h = let same : parts gs ≡ fs = cc in subst (EachHolds s e) same (parts_hold gs h)
  conjuncts_hold _ fs is h = cc

  one_fails : (f : Formula) (fs : List Formula) → failing f ≡ Some fs → (Holds s e outside f → ⊥) → NoneOf fs → ⊥
  one_fails (And gs) fs is h none' = let same : negations (parts gs) ≡ fs = cc in h (no_negations_hold gs (subst NoneOf (sym same) none'))
  one_fails _ fs is h none' = cc

  pub one_holds : (f : Formula) (fs : List Formula) → alternatives f ≡ Some fs → Holds s e outside f → NoneOf fs → ⊥
  one_holds (Or gs) fs is h none' = let same : parts gs ≡ fs = cc in h (no_parts_hold gs (subst NoneOf (sym same) none'))
  one_holds (Implies f g) fs is h none' =
      let same : Not f ∷ g ∷ [] ≡ fs = cc in
      let n = subst NoneOf (sym same) none' in
      n.0 (λ x. n.1.0 (h x))
  one_holds (Not f) fs is h none' = one_fails f fs is h none'
  one_holds _ fs is h none' = cc

  pushed_inward_holds : (f g : Formula) → pushed_inward f ≡ Some g → (Holds s e outside f → ⊥) → Holds s e outside g
  pushed_inward_holds (Not f) g is h = let same : f ≡ g = cc in subst (Holds s e outside) same (Holds-stable s e outside f h)
  pushed_inward_holds (Le t u) g is h = let same : less u t ≡ g = cc in subst (Holds s e outside) same (not_at_most (value s e outside t) (value s e outside u) h)
  pushed_inward_holds (Or fs) g is h = let same : And (formulas (negations (parts fs))) ≡ g = cc in subst (Holds s e outside) same (negations_hold fs h)
  pushed_inward_holds (Implies f k) g is h =
      let same : And (more f (more (Not k) none)) ≡ g = cc in
      subst (Holds s e outside) same (Holds-stable s e outside f (λ n. h (λ x. absurd (n x))), (λ y. h (λ x. y), tt))
  pushed_inward_holds (Forall f) g is h =
      let same : Exists (Not f) ≡ g = cc in
      subst (Holds s e outside) same (λ k. h (λ x. Holds-stable s e (push x outside) f (k x)))
  pushed_inward_holds (Exists f) g is h =
      let same : Forall (Not f) ≡ g = cc in
      subst (Holds s e outside) same (λ x y. h (λ k. k x y))
  pushed_inward_holds _ g is h = cc

  pub pushed_holds : (f g : Formula) → pushed f ≡ Some g → Holds s e outside f → Holds s e outside g
  pushed_holds (Not f) g is h = pushed_inward_holds f g is h
  pushed_holds _ g is h = cc

  -- ---- quantifiers

  pub for_all_holds : (f g : Formula) → for_all f ≡ Some g → Holds s e outside f → (x : ℤ) → Holds s e (push x outside) g
  for_all_holds (Forall f) g is h x = let same : f ≡ g = cc in subst (Holds s e (push x outside)) same (h x)
  for_all_holds _ g is h x = cc

  pub for_some_holds : (f g : Formula) → for_some f ≡ Some g → Holds s e outside f → ((x : ℤ) → Holds s e (push x outside) g → ⊥) → ⊥
  for_some_holds (Exists f) g is h none' = let same : f ≡ g = cc in h (λ x k. none' x (subst (Holds s e (push x outside)) same k))
  for_some_holds _ g is h none' = cc

  -- ---- trichotomy

  unequal_sides : (f : Formula) (p : Term × Term) → sides f ≡ Some p → (Holds s e outside f → ⊥) → value s e outside p.0 ≡ value s e outside p.1 → ⊥
  unequal_sides (Eq t u) p is h =
      let same : (t, u) ≡ p = cc in
      subst (λ q. value s e outside q.0 ≡ value s e outside q.1 → ⊥) same h
  unequal_sides _ p is h = cc

  apart_holds : (f : Formula) (p : Term × Term) → apart f ≡ Some p → Holds s e outside f → value s e outside p.0 ≡ value s e outside p.1 → ⊥
  apart_holds (Not f) p is h = unequal_sides f p is h
  apart_holds _ p is h = cc

  pub one_is_less : (f : Formula) (p : Term × Term) → apart f ≡ Some p → Holds s e outside f → NoneOf (less p.0 p.1 ∷ less p.1 p.0 ∷ []) → ⊥
  one_is_less f p is h none' = apart_holds f p is h (between (value s e outside p.0) (value s e outside p.1) none'.0 none'.1.0)

  -- ---- sums and quotients

  abbrev pub EntriesHold : List Entry → Type 0
  EntriesHold es = AllByRecursion (λ x. Holds s e outside x.0) es

  entry_before_holds : (es : List Entry) (x : Option Formula) (k : ℤ) (o : Option (List Entry)) → ((f : Formula) → x ≡ Some f → Holds s e outside f) →
      ((ds : List Entry) → o ≡ Some ds → EntriesHold ds) → entry_before x k o ≡ Some es → EntriesHold es
  entry_before_holds es None k o h g is = cc
  entry_before_holds es (Some f) k None h g is = cc
  entry_before_holds es (Some f) k (Some ds) h g is =
      let same : (f, k) ∷ ds ≡ es = cc in
      subst EntriesHold same (h f refl, g ds refl)

  pub entries_hold : (H : List Formula) (ms : List (ℤ × ℤ)) (es : List Entry) → EachHolds s e H → entries H ms ≡ Some es → EntriesHold es
  entries_hold H [] es all is = let same : [] ≡ es = cc in subst EntriesHold same tt
  entries_hold H (m ∷ ms) es all is =
      entry_before_holds es (hypothesis H m.0) m.1 (entries H ms) (λ f i. hypothesis_holds H m.0 f i all) (λ ds i. entries_hold H ms ds all i) is

  pub closes_refuted : (es : List Entry) → Closes es → EntriesHold es → ⊥
  closes_refuted es c h = closes_refutes s e outside es c h

  divided_le : (t u : Term) (g : Term) (k : ℤ) (f : Formula) → Subtract t u ≡ g → IsQuotient g k (excess f) → Holds s e outside (Le t u) → Holds s e outside f
  divided_le t u g k (Le t' u') is d h =
      divided_holds s e outside t u t' u' k (subst (λ x. IsDivided (form_of x) k (form_of (Subtract t' u'))) (sym is) d) h
  divided_le t u g k _ is d h = absurd d

  pub quotient_holds : (g : Formula) (t : Term) (k : ℤ) (f : Formula) → excess g ≡ Some t → IsQuotient t k (excess f) → Holds s e outside g → Holds s e outside f
  quotient_holds (Le t u) g k f is d h = let same : Subtract t u ≡ g = cc in divided_le t u g k f same d h
  quotient_holds _ g k f is d h = cc
