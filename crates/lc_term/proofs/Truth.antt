-- A formula without quantifiers holds exactly if its test is true.
use Rattle.std.proofs.Common.{◌≡◌, Bool, true, false, not, ◌&&◌, ◌||◌, refl}
use Rattle.std.specs.Prelude.{ℤ, ◌≤ℤ◌, int_le, T}
use Rattle.std.specs.Bool.{Decides}
use Rattle.std.proofs.lemmas.Bool.{and_parts, and_from, false≢true}
use Rattle.std.proofs.lemmas.Bool.Decides.{Decides-int_eq}
use Rattle.lc_term.specs.Syntax.{Formula, Le, Eq, Not, And, Or, Implies, Forall, Exists, Formulas, none, more}
use Rattle.lc_term.specs.Meaning.{State, Env, value, Holds, AllHold, NoneHolds}
use Rattle.lc_term.specs.Truth.{is_ground, are_ground, truth, all_true, some_true}

passed : (b : Bool) → b ≡ true → T b
passed true e = tt
passed false e = absurd (false≢true e)

was_passed : (b : Bool) → T b → b ≡ true
was_passed true h = refl
was_passed false h = absurd h

pub Decides-int_le : (x y : ℤ) → Decides (int_le x y) (x ≤ℤ y)
Decides-int_le x y = (λ e. record { le = passed (int_le x y) e }, λ h. was_passed (int_le x y) h.le)

decides_not : {P : Type 0} → (b : Bool) → Decides b P → Decides (not b) (P → ⊥)
decides_not true d = (λ e. absurd (false≢true e), λ h. absurd (h (d.0 refl)))
decides_not false d = (λ e p. false≢true (d.1 p), λ h. refl)

decides_and : {P Q : Type 0} → (x y : Bool) → Decides x P → Decides y Q → Decides (x && y) (P × Q)
decides_and x y d d' = (λ e. (d.0 (and_parts x y e).0, d'.0 (and_parts x y e).1), λ p. and_from x y (d.1 p.0) (d'.1 p.1))

decides_implies : {P Q : Type 0} → (x y : Bool) → Decides x P → Decides y Q → Decides (not x || y) (P → Q)
decides_implies true y d d' = (λ e p. d'.0 e, λ h. d'.1 (h (d.0 refl)))
decides_implies false y d d' = (λ e p. absurd (false≢true (d.1 p)), λ h. refl)

-- that none holds, if a test says whether some does
decides_none : {P Q : Type 0} → (x y : Bool) → Decides x P → Decides (not y) Q → Decides (not (x || y)) ((P → ⊥) × Q)
decides_none true y d d' = (λ e. absurd (false≢true e), λ p. absurd (p.0 (d.0 refl)))
decides_none false y d d' = (λ e. (λ p. false≢true (d.1 p), d'.0 e), λ p. d'.1 p.1)

decides_some : {Q : Type 0} → (y : Bool) → Decides (not y) Q → Decides y (Q → ⊥)
decides_some true d = (λ e q. false≢true (d.1 q), λ h. refl)
decides_some false d = (λ e. absurd (false≢true e), λ h. absurd (h (d.0 refl)))

mutual
  pub Decides-truth : (s : State) (e b : Env) (f : Formula) → is_ground f ≡ true → Decides (truth s e b f) (Holds s e b f)
  Decides-truth s e b (Le t u) g = Decides-int_le (value s e b t) (value s e b u)
  Decides-truth s e b (Eq t u) g = Decides-int_eq (value s e b t) (value s e b u)
  Decides-truth s e b (Not f) g = decides_not (truth s e b f) (Decides-truth s e b f g)
  Decides-truth s e b (And fs) g = Decides-all_true s e b fs g
  Decides-truth s e b (Or fs) g = decides_some (some_true s e b fs) (Decides-none_true s e b fs g)
  Decides-truth s e b (Implies f h) g =
      let p = and_parts (is_ground f) (is_ground h) g in
      decides_implies (truth s e b f) (truth s e b h) (Decides-truth s e b f p.0) (Decides-truth s e b h p.1)
  Decides-truth s e b (Forall f) g = absurd (false≢true g)
  Decides-truth s e b (Exists f) g = absurd (false≢true g)

  Decides-all_true : (s : State) (e b : Env) (fs : Formulas) → are_ground fs ≡ true → Decides (all_true s e b fs) (AllHold s e b fs)
  Decides-all_true s e b none g = (λ _. tt, λ _. refl)
  Decides-all_true s e b (more f fs) g =
      let p = and_parts (is_ground f) (are_ground fs) g in
      decides_and (truth s e b f) (all_true s e b fs) (Decides-truth s e b f p.0) (Decides-all_true s e b fs p.1)

  Decides-none_true : (s : State) (e b : Env) (fs : Formulas) → are_ground fs ≡ true → Decides (not (some_true s e b fs)) (NoneHolds s e b fs)
  Decides-none_true s e b none g = (λ _. tt, λ _. refl)
  Decides-none_true s e b (more f fs) g =
      let p = and_parts (is_ground f) (are_ground fs) g in
      decides_none (truth s e b f) (some_true s e b fs) (Decides-truth s e b f p.0) (Decides-none_true s e b fs p.1)
