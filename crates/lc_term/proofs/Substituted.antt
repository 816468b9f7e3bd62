-- What a substitution, an instantiation and a shift mean.
use Rattle.std.proofs.Common.{◌≡◌, ℕ, zero, suc, ◌+◌, Bool, true, false, refl, ap, ap₂, ◌∙◌, length, List, [], ◌∷◌, arith, add-zero, add-suc}
use Rattle.std.specs.Prelude.{ℤ, ◌==◌, nat_lt, if◌then◌else◌}
use Rattle.std.proofs.lemmas.Bool.Decides.{nat_tests}
use Rattle.lc_term.specs.Syntax.{Term, Variable, Bound, Column, Formula}
use Rattle.lc_term.specs.Meaning.{State, Env, push, value, column, Holds}
use Rattle.lc_term.specs.Replacement.{replacing, bounds_by, replace}
use Rattle.lc_term.specs.Substitution.{putting, substituted, with_value, opening, instantiated, shifting, shifted_term, shifted, push_all}
use Rattle.lc_term.proofs.Replacement.{value-replace, Holds-replace}

pub Holds-replacing : (s : State) (e b : Env) (σ : ℕ → Column) (τ : ℕ → Term) (f : Formula) →
    Holds s e b (replace (replacing σ τ) f) ≡ Holds (λ c. column s e b (σ c)) (λ k. value s e b (τ k)) b f
Holds-replacing s e b σ τ f = Holds-replace s e b (replacing σ τ) f

chosen : (s : State) (e b : Env) (u : Term) (k : ℕ) (same : Bool) →
    value s e b (if same then u else Variable k) ≡ (if same then value s e b u else e k)
chosen s e b u k true = refl
chosen s e b u k false = refl

pub Holds-substituted : (s : State) (e b : Env) (v : ℕ) (u : Term) (f : Formula) →
    Holds s e b (substituted v u f) ≡ Holds s (with_value v (value s e b u) e) b f
Holds-substituted s e b v u f = Holds-replace s e b (putting v u) f ∙ λ i. Holds s (λ k. chosen s e b u k (k == v) i) b f

bounds_by-opening : (s : State) (e b : Env) (u : Term) (k : ℕ) → bounds_by s e b (opening u) k ≡ push (value s e b u) b k
bounds_by-opening s e b u zero = refl
bounds_by-opening s e b u (suc k) = refl

pub Holds-instantiated : (s : State) (e b : Env) (u : Term) (f : Formula) →
    Holds s e b (instantiated u f) ≡ Holds s e (push (value s e b u) b) f
Holds-instantiated s e b u f = Holds-replace s e b (opening u) f ∙ λ i. Holds s e (λ k. bounds_by-opening s e b u k i) f

-- beyond further quantifiers a variable points where it did
push_all-skip : (b : Env) (xs : List ℤ) (k : ℕ) → push_all xs b (k + length xs) ≡ b k
push_all-skip b [] k = rw add-zero
push_all-skip b (x ∷ xs) k = rw add-suc (push_all-skip b xs k)

suc-add : (k n : ℕ) → suc k + n ≡ suc (k + n)
suc-add k n = omega arith

nat_lt-zero : (k : ℕ) → nat_lt k 0 ≡ false
nat_lt-zero k = grind (arith, nat_tests)

zero-nat_lt : (n : ℕ) → nat_lt 0 (suc n) ≡ true
zero-nat_lt n = grind (arith, nat_tests)

nat_lt-suc : (k n : ℕ) → nat_lt (suc k) (suc n) ≡ nat_lt k n
nat_lt-suc k n = grind (arith, nat_tests)

-- a variable finds its number again, whether its quantifier is inside the added ones or outside
push_all-shift : (b : Env) (xs ys : List ℤ) (k : ℕ) →
    (if nat_lt k (length ys) then push_all ys (push_all xs b) k else push_all ys (push_all xs b) (k + length xs)) ≡ push_all ys b k
push_all-shift b xs [] k = ap (λ c. if c then push_all xs b k else push_all xs b (k + length xs)) (nat_lt-zero k) ∙ push_all-skip b xs k
push_all-shift b xs (y ∷ ys) zero = ap (λ c. if c then y else push_all (y ∷ ys) (push_all xs b) (0 + length xs)) (zero-nat_lt (length ys))
push_all-shift b xs (y ∷ ys) (suc k) =
    ap₂ (λ c n. if c then push_all ys (push_all xs b) k else push y (push_all ys (push_all xs b)) n) (nat_lt-suc k (length ys)) (suc-add k (length xs)) ∙
    push_all-shift b xs ys k

shifted_bound : (s : State) (e b : Env) (k n : ℕ) (inside : Bool) →
    value s e b (if inside then Bound k else Bound (k + n)) ≡ (if inside then b k else b (k + n))
shifted_bound s e b k n true = refl
shifted_bound s e b k n false = refl

bounds_by-shifting : (s : State) (e b : Env) (xs ys : List ℤ) (k : ℕ) →
    bounds_by s e (push_all ys (push_all xs b)) (shifting (length xs) (length ys)) k ≡ push_all ys b k
bounds_by-shifting s e b xs ys k =
    shifted_bound s e (push_all ys (push_all xs b)) k (length xs) (nat_lt k (length ys)) ∙ push_all-shift b xs ys k

pub value-shifted : (s : State) (e b : Env) (xs ys : List ℤ) (t : Term) →
    value s e (push_all ys (push_all xs b)) (shifted_term (length xs) (length ys) t) ≡ value s e (push_all ys b) t
value-shifted s e b xs ys t =
    value-replace s e (push_all ys (push_all xs b)) (shifting (length xs) (length ys)) t ∙ λ i. value s e (λ k. bounds_by-shifting s e b xs ys k i) t

pub Holds-shifted : (s : State) (e b : Env) (xs ys : List ℤ) (f : Formula) →
    Holds s e (push_all ys (push_all xs b)) (shifted (length xs) (length ys) f) ≡ Holds s e (push_all ys b) f
Holds-shifted s e b xs ys f =
    Holds-replace s e (push_all ys (push_all xs b)) (shifting (length xs) (length ys)) f ∙ λ i. Holds s e (λ k. bounds_by-shifting s e b xs ys k i) f
