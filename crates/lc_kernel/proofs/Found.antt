-- What a step that opens branches has found: its hypothesis, of a form, with each variable in use.
use Rattle.std.proofs.Common.{◌≡◌, ℕ, zero, suc, Bool, true, false, List, [], ◌∷◌, Option, Some, None, IsTrue, refl, subst, arith}
use Rattle.std.specs.Prelude.{ℤ, pos, negsuc, slice_get, ◌==◌}
use Rattle.std.specs.List.{AllByRecursion}
use Rattle.std.proofs.lemmas.Bool.Decides.{nat_tests}
use Rattle.lc_linear.specs.Closing.{Entry}
use Rattle.lc_term.specs.Equal.{formula_eq}
use Rattle.lc_term.specs.Syntax.{Formula, Not}
use Rattle.lc_kernel.specs.Proofs as S
use Rattle.lc_kernel.specs.Table.{Outcome, flawed, opens, hypothesis, Needing, Taking, Testing, Branching, InUse, Opens, entries, all_comparisons, SumGives, Gives}
use Rattle.lc_kernel.specs.declared.reason.Flaw.TheVariants.{Bad}
use Rattle.lc_kernel.specs.declared.reason.Reason.{Reason}
use Rattle.lc_kernel.specs.declared.reason.Reason.TheVariants.{NoHypothesis, WrongForm, VariableNotInUse, NotOpposite, IsOpen}

-- the same branches, with the same count of variables
pub opens_same : (v w : ℕ) (bs cs : List (List Formula)) → opens w bs ≡ opens v cs → (w ≡ v) × (bs ≡ cs)
opens_same v w bs cs is =
    let same : w ≡ v = cc in
    let same' : bs ≡ cs = cc in
    (same, same')

-- what was needed is there
pub needing_opens : {A : Type 0} (w : ℕ) (bs : List (List Formula)) (x : Option A) (why : Reason) (next : A → Outcome → Type 0) → Needing x why next (opens w bs) →
    (a : A) × (x ≡ Some a) × next a (opens w bs)
needing_opens w bs None why next is = cc
needing_opens w bs (Some a) why next is = (a, refl, is)

-- what was tested holds
pub testing_opens : (w : ℕ) (bs : List (List Formula)) (holds : Bool) (why : Reason) (next : Outcome → Type 0) → Testing holds why next (opens w bs) → IsTrue holds × next (opens w bs)
testing_opens w bs true why next is = (refl, is)
testing_opens w bs false why next is = cc

-- there are as many branches as proofs
pub branching_opens : (w : ℕ) (bs : List (List Formula)) (n m : ℕ) (next : Outcome → Type 0) → Branching n m next (opens w bs) → (n ≡ m) × next (opens w bs)
branching_opens w bs n m next is =
    let t = testing_opens w bs (n == m) WrongForm next is in
    let same : IsTrue (n == m) = t.0 in
    (grind (arith, nat_tests, same), t.1)

-- the hypothesis is there, and has the form, and there are as many branches as proofs
pub record Taken {A : Type 0} (H : List Formula) (h : ℤ) (form : Formula → Option A) (n : ℕ) (m : A → ℕ) (next : A → Outcome → Type 0) (w : ℕ) (bs : List (List Formula)) : Type 0 where
  pub formula : Formula
  pub stands : hypothesis H h ≡ Some formula
  pub part : A
  pub has : form formula ≡ Some part
  pub counted : n ≡ m part
  pub gives : next part (opens w bs)

pub taking_opens : {A : Type 0} (w : ℕ) (bs : List (List Formula)) (H : List Formula) (h : ℤ) (form : Formula → Option A) (n : ℕ) (m : A → ℕ) (next : A → Outcome → Type 0) →
    Taking H h form (λ a. Branching n (m a) (next a)) (opens w bs) → Taken H h form n m next w bs
taking_opens w bs H h form n m next is =
    let f = needing_opens w bs (hypothesis H h) NoHypothesis (λ f. Needing (form f) WrongForm (λ a. Branching n (m a) (next a))) is in
    let a = needing_opens w bs (form f.0) WrongForm (λ a. Branching n (m a) (next a)) f.2 in
    let b = branching_opens w bs n (m a.0) (next a.0) a.2 in
    record { formula = f.0; stands = f.1; part = a.0; has = a.1; counted = b.0; gives = b.1 }

-- each variable is in use
pub in_use_opens : (w : ℕ) (bs : List (List Formula)) (yes' : Bool) (next : Outcome → Type 0) → InUse yes' next (opens w bs) → IsTrue yes' × next (opens w bs)
in_use_opens w bs yes' next is = testing_opens w bs yes' VariableNotInUse next is

-- the same if there are as many branches as proofs
pub branching_in_use : (w : ℕ) (bs : List (List Formula)) (n m : ℕ) (yes' : Bool) (next : Outcome → Type 0) → Branching n m (InUse yes' next) (opens w bs) →
    IsTrue yes' × next (opens w bs) × (n ≡ m)
branching_in_use w bs n m yes' next is =
    let b = branching_opens w bs n m (InUse yes' next) is in
    let u = in_use_opens w bs yes' next b.1 in
    (u.0, u.1, b.0)

-- the comparisons that a sum has found
pub record Summed (v : ℕ) (H : List Formula) (n : ℕ) (ms : List (ℤ × ℤ)) (w : ℕ) (bs : List (List Formula)) : Type 0 where
  pub found : List Entry
  pub stand : entries H ms ≡ Some found
  pub counted : n ≡ 0
  pub gives : SumGives v found (opens w bs)

pub sum_gives_summed : (v : ℕ) (H : List Formula) (n : ℕ) (ms : List (ℤ × ℤ)) (w : ℕ) (bs : List (List Formula)) → Gives v H n (S.Sum ms) (opens w bs) → Summed v H n ms w bs
sum_gives_summed v H n ms w bs is =
    let e = needing_opens w bs (entries H ms) NoHypothesis (λ es. Testing (all_comparisons es) WrongForm (Branching n 0 (SumGives v es))) is in
    let t = testing_opens w bs (all_comparisons e.0) WrongForm (Branching n 0 (SumGives v e.0)) e.2 in
    let b = branching_opens w bs n 0 (SumGives v e.0) t.1 in
    record { found = e.0; stand = e.1; counted = b.0; gives = b.1 }

-- a hypothesis, and the negation of it
pub record Opposed (v : ℕ) (H : List Formula) (n : ℕ) (h g : ℤ) (w : ℕ) (bs : List (List Formula)) : Type 0 where
  pub formula : Formula
  pub stands : hypothesis H h ≡ Some formula
  pub negation : Formula
  pub stands' : hypothesis H g ≡ Some negation
  pub opposite : IsTrue (formula_eq negation (Not formula))
  pub counted : n ≡ 0
  pub gives : Opens v [] (opens w bs)

pub opposite_gives_opposed : (v : ℕ) (H : List Formula) (n : ℕ) (h g : ℤ) (w : ℕ) (bs : List (List Formula)) → Gives v H n (S.Opposite h g) (opens w bs) → Opposed v H n h g w bs
opposite_gives_opposed v H n h g w bs is =
    let f = needing_opens w bs (hypothesis H h) NoHypothesis (λ f. Needing (hypothesis H g) NoHypothesis (λ f'. Testing (formula_eq f' (Not f)) NotOpposite (Branching n 0 (Opens v [])))) is in
    let f' = needing_opens w bs (hypothesis H g) NoHypothesis (λ f'. Testing (formula_eq f' (Not f.0)) NotOpposite (Branching n 0 (Opens v []))) f.2 in
    let t = testing_opens w bs (formula_eq f'.0 (Not f.0)) NotOpposite (Branching n 0 (Opens v [])) f'.2 in
    let b = branching_opens w bs n 0 (Opens v []) t.1 in
    record { formula = f.0; stands = f.1; negation = f'.0; stands' = f'.1; opposite = t.0; counted = b.0; gives = b.1 }

-- an open step opens no branches
pub open_opens : (v : ℕ) (H : List Formula) (n w : ℕ) (bs : List (List Formula)) → Gives v H n S.Open (opens w bs) → ⊥
open_opens v H n w bs is =
    let b = branching_opens w bs n 0 (λ o. o ≡ flawed (Bad IsOpen)) is in
    let no' : opens w bs ≡ flawed (Bad IsOpen) = b.1 in cc

-- what each hypothesis has, the one with a number has
numbered : (P : Formula → Type 0) (H : List Formula) (n : ℕ) (f : Formula) → slice_get H n ≡ Some f → AllByRecursion P H → P f
numbered P [] n f is all = cc
numbered P (g ∷ H) zero f is all = let same : g ≡ f = cc in subst P same all.0
numbered P (g ∷ H) (suc n) f is all = numbered P H n f is all.1

pub hypothesis_has : (P : Formula → Type 0) (H : List Formula) (h : ℤ) (f : Formula) → hypothesis H h ≡ Some f → AllByRecursion P H → P f
hypothesis_has P H (pos n) f is all = numbered P H n f is all
hypothesis_has P H (negsuc n) f is all = cc
